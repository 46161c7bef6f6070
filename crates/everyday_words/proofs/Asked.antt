-- What a tool's command line asks for, from what clap ensures of a parse.
use Rattle.std.proofs.Common.{◌≡◌, [], List, true, Err, Ok, Result, IfOk, IfErr, refl, sym, ◌∙◌, ap, subst, inl, inr}
use Rattle.clap.specs.Faults.{fault_of, is_simple_and_free}
use Rattle.clap.specs.Kinds.{FailsBy, IsAmong}
use Rattle.clap.specs.Simple.{App, HasMatchesOf, is_simple}
use Rattle.clap.specs.Values.{kind_of}
use Rattle.clap.specs.Walk.{Text}
use Rattle.clap.specs.declared.error.Error.{Error}
use Rattle.clap.specs.declared.error.kind.ErrorKind.{ErrorKind}
use Rattle.clap.specs.declared.error.kind.ErrorKind.TheVariants.{OutOfMemory}
use Rattle.clap.specs.declared.parser.matches.ArgMatches.{ArgMatches}
use Rattle.tools_commands.specs.Matches.{matched_rows}
use Rattle.everyday_words.specs.Arguments.{Asked, IsRefusalOf, IsRequestOf, IsSaidOf, SaysWrong, TakesAs, asked_by, asked_of}
use Rattle.everyday_words.specs.Commands.{AreLists, Lists, OfEachTool, OfTool, tool_app}
use Rattle.everyday_words.specs.Requests.{Wanted}
use Rattle.everyday_words.specs.inside.Answers.{AnswersTaken}
use Rattle.everyday_words.specs.declared.arguments.Refusal.{Refusal}
use Rattle.everyday_words.specs.declared.arguments.Refusal.TheVariants as refusal
use Rattle.everyday_arguments.specs.declared.names.Tool.{Tool}
use Rattle.everyday_arguments.specs.declared.names.Tool.TheVariants as tool
use Rattle.everyday_words.specs.declared.requests.Request.{Request}

is_tool_simple : (lists : Lists) (t : Tool) → is_simple (tool_app lists t) ≡ true
unfolding tool_app
is_tool_simple lists tool.Tic = refl
is_tool_simple lists tool.Infocmp = refl
is_tool_simple lists tool.Tput = refl
is_tool_simple lists tool.Fmt = refl
is_tool_simple lists tool.Lint = refl
is_tool_simple lists tool.Clear = refl
is_tool_simple lists tool.Toe = refl
is_tool_simple lists tool.Tabs = refl
is_tool_simple lists tool.Tset = refl
is_tool_simple lists tool.Reset = refl

is_tool_free : (lists : Lists) (t : Tool) → is_simple_and_free (tool_app lists t) ≡ true
unfolding tool_app
is_tool_free lists tool.Tic = refl
is_tool_free lists tool.Infocmp = refl
is_tool_free lists tool.Tput = refl
is_tool_free lists tool.Fmt = refl
is_tool_free lists tool.Lint = refl
is_tool_free lists tool.Clear = refl
is_tool_free lists tool.Toe = refl
is_tool_free lists tool.Tabs = refl
is_tool_free lists tool.Tset = refl
is_tool_free lists tool.Reset = refl

pub asked-matches : (t : Tool) (app : App) (words : List Text) (matches : ArgMatches) (lists : Lists) → app ≡ tool_app lists t
    → HasMatchesOf app words matches → asked_by t (matched_rows matches) ≡ asked_of t (tool_app lists t) words
asked-matches t app words matches lists same has =
    ap (asked_by t) (has (ap is_simple same ∙ is_tool_simple lists t)).0 ∙ ap (λ (a : App). asked_of t a words) same

pub no_faults : (t : Tool) (app : App) (words : List Text) (matches : ArgMatches) (lists : Lists) → app ≡ tool_app lists t
    → (is_simple_and_free app ≡ true → FailsBy {T = ArgMatches} (fault_of app words) (Ok matches)) → fault_of (tool_app lists t) words ≡ []
no_faults t app words matches lists same fails =
    ap (λ (a : App). fault_of a words) (sym same) ∙ fails (ap is_simple_and_free same ∙ is_tool_free lists t)

-- what is said of a fault of memory is that alone
pub memory_alone : (kind : ErrorKind) (e : Refusal) → kind ≡ OutOfMemory → IsSaidOf kind e → e ≡ refusal.Memory
memory_alone kind refusal.Memory is said = refl
memory_alone kind (refusal.Text text) is (inl help) = absurd (cc)
memory_alone kind (refusal.Text text) is (inr version) = absurd (cc)
memory_alone kind (refusal.Usage text) is said = absurd (said.2 is)

-- words in which clap finds a fault are refused by it
pub refused-fault : (t : Tool) (app : App) (words : List Text) (error : Error) (refused : Refusal) (lists : Lists) → AreLists lists
    → app ≡ tool_app lists t
    → (is_simple_and_free app ≡ true → FailsBy {T = ArgMatches} (fault_of app words) (Err error))
    → IsSaidOf (kind_of error) refused → IsRefusalOf t words refused
refused-fault t app words error refused lists are same fails said =
    elim (fails (ap is_simple_and_free same ∙ is_tool_free lists t)) [
      | inl memory ↦ inl (memory_alone (kind_of error) refused memory said)
      | inr among ↦
          let found = subst (λ (a : App). IsAmong (kind_of error) (fault_of a words)) same among in
          inr (lists, are, inl (kind_of error, found, said))
    ]

-- what is answered to words that clap takes
module _ (t : Tool) (words : List Text) (lists : Lists) (are : AreLists lists) (asked : Asked) (same : asked ≡ asked_of t (tool_app lists t) words)
    (no_fault : fault_of (tool_app lists t) words ≡ []) where
  pub right-taken : (r : Result Request Refusal) → AnswersTaken t asked r → IfOk r (λ request. OfTool t (IsRequestOf t words request))
  right-taken (Ok request) is = (lists, are, (sym same ∙ is, no_fault))
  right-taken (Err refused) is = tt

  wrong-taken : (a : Asked) (refused : Refusal) (wanted : Wanted) → SaysWrong t a refused → a ≡ Ok wanted → ⊥
  wrong-taken (Ok w) refused wanted wrong is = wrong
  wrong-taken (Err m) refused wanted wrong is = absurd (cc)

  pub answered-taken : (r : Result Request Refusal) → AnswersTaken t asked r → (wanted : Wanted) → OfEachTool t (TakesAs t words wanted)
      → IfErr r (λ refused. refused ≡ refusal.Memory)
  answered-taken (Ok request) is wanted takes = tt
  answered-taken (Err refused) (inl memory) wanted takes = memory
  answered-taken (Err refused) (inr wrong) wanted takes = absurd (wrong-taken asked refused wanted wrong (same ∙ (takes lists are).0))

  pub refused-taken : (r : Result Request Refusal) → AnswersTaken t asked r → IfErr r (IsRefusalOf t words)
  refused-taken (Ok request) is = tt
  refused-taken (Err refused) (inl memory) = inl memory
  refused-taken (Err refused) (inr wrong) =
      inr (lists, are, inr (no_fault, subst (λ (a : Asked). SaysWrong t a refused) same wrong))
