use Rattle.std.proofs.Common.{◌≡◌, length}
use Rattle.ti_spelling.specs.WhiteSpace.{without_trailing_space}
use Rattle.ti_spelling.proofs.white_space.trim_end.Given as goal

abbrev pub invariant-loop-rest : goal.invariant-loop-rest
invariant-loop-rest l = without_trailing_space l.rest ≡ without_trailing_space l.text

abbrev pub decreases-loop-rest : goal.decreases-loop-rest
decreases-loop-rest l = length l.rest
