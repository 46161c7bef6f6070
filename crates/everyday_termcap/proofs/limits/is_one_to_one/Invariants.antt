use Rattle.std.proofs.Common.{◌≡◌, length}
use Rattle.everyday_termcap.specs.Limits.{is_one_to_one}
use Rattle.everyday_termcap.proofs.limits.is_one_to_one.Given as goal

-- it depends on the pairs that are left
abbrev pub invariant-loop-pairs : goal.invariant-loop-pairs
invariant-loop-pairs l = is_one_to_one l.pairs ≡ is_one_to_one l.acsc

abbrev pub decreases-loop-pairs : goal.decreases-loop-pairs
decreases-loop-pairs l = length l.pairs
