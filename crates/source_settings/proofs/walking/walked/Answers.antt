use Rattle.std.proofs.Common.{◌≡◌, ◌∙◌, ℕ, ◌+◌, add-zero, ap, arith, drop, sym}
use Rattle.std.proofs.lemmas.List.{take_rest}
use Rattle.source_places.specs.LineTexts.{until_end}
use Rattle.source_places.specs.Position.{line_start}
use Rattle.source_places.proofs.Places.{line_start-zero}
use Rattle.source_settings.proofs.walking.walked.Goals as goal

pub after-requires-clause-line : goal.after-requires-clause-line
after-requires-clause-line c =
    let text = c.args.text.now in
    let start = c.loop-passed.start in
    let number = c.loop-passed._passed in
    let first : line_start text (number + 0) ≡ start = omega (arith, c.loop-passed.invariant.left 0, line_start-zero (drop start text)) in
    let begins : line_start text number ≡ start = sym (ap (line_start text) (add-zero number)) ∙ first in
    rw c.loop-passed.invariant.walk
    (c.first_of.ensures ∙ ap until_end (take_rest text start) ∙ sym (ap (λ (n : ℕ). until_end (drop n text)) begins))
