use Rattle.std.proofs.Common.{◌≡◌, ◌++◌, length}
use Rattle.everyday_constants.specs.Constants.{with_characters, written_from}
use Rattle.everyday_constants.proofs.constants.string_with.Given as goal

-- what was written, and what is to be written of the rest
abbrev pub invariant-loop-rest : goal.invariant-loop-rest
invariant-loop-rest l = l.out.items ++ written_from 0 l.rest ≡ with_characters l.text

abbrev pub decreases-loop-rest : goal.decreases-loop-rest
decreases-loop-rest l = length l.rest
