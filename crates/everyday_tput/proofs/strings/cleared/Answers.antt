use Rattle.std.proofs.Common.{◌≡◌, ◌∙◌, ℕ, List, Bool, Option, Some, None, Bor, ap, refl, subst, sym}
use Rattle.std.specs.Prelude.{if◌then◌else◌, is_some, option_map}
use Rattle.tools_tput.specs.Results.{reply}
use Rattle.everyday_tput.specs.Answers.{AnswersClear, cleared, not_cleared}
use Rattle.everyday_tput.proofs.strings.cleared.Goals as goal
use Rattle.everyday_tput.proofs.strings.cleared.Goals.{then-is_some, else-is_some}

same_some : (o : Option (Bor (List ℕ))) → is_some o ≡ is_some (option_map (λ text. text.now) o)
same_some None = refl
same_some (Some text) = refl

pub returns-in-Some : goal.returns-in-Some
returns-in-Some c = λ statics.
    let by : Bool → ℕ = λ there. if there then 0 else 2 in
    let status : by (is_some c.args.clear) ≡ c.if-is_some.status =
    elim c.if-is_some.branch [
      | then-is_some w ↦ ap by (sym c.is_some.ensures ∙ w.if-is_some.true) ∙ sym w.status-is
      | else-is_some w ↦ ap by (sym c.is_some.ensures ∙ w.if-is_some.false) ∙ sym w.status-is
    ] in
    subst (λ (n : ℕ). AnswersClear c.args.line.now (option_map (λ text. text.now) c.args.clear) (option_map (λ text. text.now) c.args.scrollback) statics
    (reply c.in-Some.bytes.items n statics)) (ap by (sym (same_some c.args.clear)) ∙ status) (cleared (rw c.in-Some.is at c.in_ok-bytes.ensures))

pub returns-in-None : goal.returns-in-None
returns-in-None c = λ statics. rw (c.status_alone.ensures.bytes, c.status_alone.ensures.status) (not_cleared (rw c.in-None.is at c.in_ok-bytes.ensures))
