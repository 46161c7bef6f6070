use Rattle.std.proofs.Common.{◌≡◌, length}
use Rattle.everyday_tput.specs.Numbers.{after_space}
use Rattle.everyday_tput.proofs.numbers.after_space.Given as goal

-- only white space was left out
abbrev pub invariant-loop-rest : goal.invariant-loop-rest
invariant-loop-rest l = after_space l.rest ≡ after_space l.text

abbrev pub decreases-loop-rest : goal.decreases-loop-rest
decreases-loop-rest l = length l.rest
