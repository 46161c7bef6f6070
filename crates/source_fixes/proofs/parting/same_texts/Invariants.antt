use Rattle.std.proofs.Common.{◌≡◌, length, map}
use Rattle.source_fixes.specs.Parting.{same_texts}
use Rattle.source_fixes.proofs.parting.same_texts.Given as goal

abbrev pub invariant-loop-text : goal.invariant-loop-text
invariant-loop-text l =
    same_texts (map (λ t. t.items) l.left) (map (λ t. t.items) l.right) ≡ same_texts (map (λ t. t.items) l.one) (map (λ t. t.items) l.other)

abbrev pub decreases-loop-text : goal.decreases-loop-text
decreases-loop-text l = length l.left
