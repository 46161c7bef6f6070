use Rattle.std.proofs.Common.{◌≡◌, ◌∷◌, [], List, ℕ, Some, true, false, refl, rules, subst, sym}
use Rattle.std.specs.Prelude.{bytes_eq, codes}
use Rattle.ti_param.specs.Meaning.{no_variables}
use Rattle.tools_tput.specs.Replies.{reply_of}
use Rattle.everyday_tput.specs.Answers.{full_entry, size_named, target_of}
use Rattle.everyday_tput.proofs.Moved.{moved_answer}
use Rattle.everyday_tput.proofs.Steps.{cleared_answer, sized_answer, started_answer, tables_answer}
use Rattle.everyday_tput.proofs.commands.answer_other.Goals as goal

pub returns-in-Some : goal.returns-in-Some
returns-in-Some c = λ statics command line other named.
    let t = target_of c.args.target.now in
    sized_answer t statics command c.number_outcome.result c.in-Some.number (c.number_outcome.ensures statics)
    (subst (λ (n : List ℕ). size_named t n ≡ Some c.in-Some.number) (sym named) (sym c.in-Some.ensures))

pub returns-then-eq : goal.returns-then-eq
returns-then-eq c = λ statics command line other named.
    let clears : bytes_eq c.args.cap.now (codes "clear") ≡ true = search rules in
    cleared_answer (target_of c.args.target.now) statics command c.cleared.result c.args.line.now _ _
    (subst (λ (n : List ℕ). bytes_eq n (codes "clear") ≡ true) (sym named) clears) (c.cleared.ensures statics) line c.table_text-clear.ensures
    c.scrollback_text.ensures

pub returns-in-Some-start_named : goal.returns-in-Some-start_named
returns-in-Some-start_named c = λ statics command line other named.
    started_answer (target_of c.args.target.now) statics command c.started.result c.in-Some-start_named.is_reset c.args.cap.now named
    (sym c.in-Some-start_named.ensures) (c.started.ensures statics line)

pub returns-in-Ok : goal.returns-in-Ok
returns-in-Ok c = λ statics command line other named.
    let cap = c.args.cap.now in
    let clears : bytes_eq cap (codes "clear") ≡ false = search rules in
    tables_answer (target_of c.args.target.now) statics command (reply_of c.in-Ok.outcome statics) cap named (sym c.in_default.ensures) clears (sym c.in_default-start_named.ensures) other.0 other.1
    (moved_answer (full_entry c.args.target.now.entry) c.args.target.now.rate no_variables statics cap (cap ∷ []) (Some (reply_of c.in-Ok.outcome c.in-Ok.ensures.0))
    (reply_of c.in-Ok.outcome c.in-Ok.ensures.0) refl refl clears other.1 c.in-Ok.ensures.1)
