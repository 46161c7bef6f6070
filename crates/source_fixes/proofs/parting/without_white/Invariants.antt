use Rattle.std.proofs.Common.{◌≡◌, length}
use Rattle.source_fixes.specs.Parting.{without_white}
use Rattle.source_fixes.proofs.parting.without_white.Given as goal

abbrev pub invariant-loop-byte : goal.invariant-loop-byte
invariant-loop-byte l = without_white l.rest ≡ without_white l.text

abbrev pub decreases-loop-byte : goal.decreases-loop-byte
decreases-loop-byte l = length l.rest
