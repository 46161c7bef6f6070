-- What the program's command line asks for, from what clap ensures of a parse.
use Rattle.std.proofs.Common.{◌≡◌, [], List, true, Err, None, Some, Ok, Result, IfOk, IfErr, refl, sym, ◌∙◌, ap, subst, inl, inr}
use Rattle.std.specs.Result.{result_ok}
use Rattle.clap.specs.Faults.{fault_of, is_simple_and_free}
use Rattle.clap.specs.Kinds.{FailsBy, IsAmong}
use Rattle.clap.specs.Simple.{App, HasMatchesOf, is_simple, subcommand_of, subcommand_rows_of}
use Rattle.clap.specs.Values.{kind_of}
use Rattle.clap.specs.Walk.{Text}
use Rattle.clap.specs.declared.error.Error.{Error}
use Rattle.clap.specs.declared.parser.matches.ArgMatches.{ArgMatches}
use Rattle.tools_commands.specs.Arguments.{Asked, asked_of, task_in}
use Rattle.tools_commands.specs.Commands.{OfEachProgram, OfProgram, ti_app}
use Rattle.tools_commands.specs.InfocmpWords.{IsOrders}
use Rattle.tools_commands.specs.Jobs.{IsJobOf, IsRefusalOf, IsUsageRefusal, SaysWrong, TakesAs, cause_of, refusal_of}
use Rattle.tools_commands.specs.Rules.{Choices}
use Rattle.tools_commands.specs.Tasks.{Task}
use Rattle.tools_commands.specs.inside.Jobs.{AnswersTaken}
use Rattle.tools_commands.specs.declared.arguments.UsageError.TheVariants as usage
use Rattle.tools_commands.specs.declared.arguments.Refusal.{Refusal}
use Rattle.tools_commands.specs.declared.arguments.Refusal.TheVariants as refusal
use Rattle.tools_commands.specs.declared.jobs.Job.{Job}

is_program_simple : (orders : Choices) → is_simple (ti_app orders) ≡ true
unfolding ti_app
is_program_simple orders = refl

is_program_free : (orders : Choices) → is_simple_and_free (ti_app orders) ≡ true
unfolding ti_app
is_program_free orders = refl

pub asked-matches : (app : App) (words : List Text) (matches : ArgMatches) (orders : Choices) → app ≡ ti_app orders
    → HasMatchesOf app words matches → task_in (subcommand_rows_of matches) ≡ asked_of (ti_app orders) words
asked-matches app words matches orders same has =
    ap task_in ((has (ap is_simple same ∙ is_program_simple orders)).1 ∙ ap (λ (a : App). subcommand_of a words) same)

pub no_faults : (app : App) (words : List Text) (matches : ArgMatches) (orders : Choices) → app ≡ ti_app orders
    → (is_simple_and_free app ≡ true → FailsBy {T = ArgMatches} (fault_of app words) (Ok matches)) → fault_of (ti_app orders) words ≡ []
no_faults app words matches orders same fails =
    ap (λ (a : App). fault_of a words) (sym same) ∙ fails (ap is_simple_and_free same ∙ is_program_free orders)

-- an answer that has the cause of out of memory is that answer
pub memory_alone : (e : Refusal) → cause_of e ≡ usage.Memory → e ≡ refusal.Memory
memory_alone refusal.Memory is = refl
memory_alone (refusal.Help said) is = absurd cc
memory_alone (refusal.Usage said) is = absurd cc

-- words in which clap finds a fault are refused by it
pub refused-fault : (app : App) (words : List Text) (error : Error) (refused : Refusal) (orders : Choices) → IsOrders orders → app ≡ ti_app orders
    → (is_simple_and_free app ≡ true → FailsBy {T = ArgMatches} (fault_of app words) (Err error))
    → cause_of refused ≡ refusal_of (kind_of error) → IsRefusalOf words refused
refused-fault app words error refused orders are same fails is =
    elim (fails (ap is_simple_and_free same ∙ is_program_free orders)) [
      | inl memory ↦ inl (memory_alone refused (is ∙ ap refusal_of memory))
      | inr among ↦
          let found = subst (λ (a : App). IsAmong (kind_of error) (fault_of a words)) same among in
          inr (orders, are, (inl (kind_of error, found, is), λ none. absurd (subst (IsAmong (kind_of error)) none found)))
    ]

-- what is answered to words that clap takes
module _ (words : List Text) (orders : Choices) (are : IsOrders orders) (asked : Asked) (same : asked ≡ asked_of (ti_app orders) words)
    (no_fault : fault_of (ti_app orders) words ≡ []) where
  pub right-taken : (r : Result Job Refusal) → AnswersTaken asked r → IfOk r (λ job. OfProgram (IsJobOf words job))
  right-taken (Ok job) is = (orders, are, (ap result_ok (sym same ∙ is), no_fault))
  right-taken (Err refused) is = tt

  pub answered-taken : (r : Result Job Refusal) → AnswersTaken asked r → (task : Task) → OfEachProgram (TakesAs words task)
      → IfErr r (λ refused. refused ≡ refusal.Memory)
  answered-taken (Ok job) is task takes = tt
  answered-taken (Err refused) (inl memory) task takes = memory
  answered-taken (Err refused) (inr wrong) task takes =
      let bad : Some task ≡ None = sym (takes orders are).0 ∙ ap result_ok (sym same ∙ wrong.1) in absurd (cc)

  pub refused-taken : (r : Result Job Refusal) → AnswersTaken asked r → IfErr r (IsRefusalOf words)
  refused-taken (Ok job) is = tt
  refused-taken (Err refused) (inl memory) = inl memory
  refused-taken (Err refused) (inr wrong) =
      let right = sym same ∙ wrong.1 in
      inr (
        orders,
        are,
        (
          inr (no_fault, ap result_ok right, ap cause_of wrong.3),
          λ _. subst (λ (a : Asked). SaysWrong a refused) (sym right) (subst (SaysWrong (Err wrong.0)) (sym wrong.3) wrong.4),
        ),
      )

-- a refusal without its message
pub cause-refusal : (words : List Text) (refused : Refusal) → IsRefusalOf words refused → IsUsageRefusal words (cause_of refused)
cause-refusal words refused (inl memory) = inl (ap cause_of memory)
cause-refusal words refused (inr is) = inr (is.0, is.1, is.2.0)
