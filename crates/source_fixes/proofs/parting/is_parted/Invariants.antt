use Rattle.std.proofs.Common.{◌≡◌, length, map}
use Rattle.source_fixes.specs.Parting.{is_parted}
use Rattle.source_fixes.proofs.parting.is_parted.Given as goal

abbrev pub invariant-loop-text : goal.invariant-loop-text
invariant-loop-text l =
    is_parted (map (λ t. t.items) l.left) (map (λ t. t.items) l.right) ≡ is_parted (map (λ t. t.items) l.before) (map (λ t. t.items) l.after)

abbrev pub decreases-loop-text : goal.decreases-loop-text
decreases-loop-text l = length l.left
