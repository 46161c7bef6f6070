use Rattle.std.proofs.Common.{◌≡◌, ◌≤◌, ◌+◌, ◌-◌, ◌++◌, map, drop, length}
use Rattle.user_listing.specs.Names.{names_of_both}
use Rattle.user_listing.proofs.names.names_of_both.Given as goal

abbrev pub invariant-loop-left : goal.invariant-loop-left
invariant-loop-left l = record {
  done : map (λ name. name.now) l.names.items ++ names_of_both (map (λ name. name.now) (drop l.left l.one)) (map (λ name. name.now) (drop l.right l.other))
      ≡ names_of_both (map (λ name. name.now) l.one) (map (λ name. name.now) l.other);
  in_one : l.left ≤ length l.one;
  in_other : l.right ≤ length l.other;
}

abbrev pub decreases-loop-left : goal.decreases-loop-left
decreases-loop-left l = length l.one - l.left + (length l.other - l.right)
