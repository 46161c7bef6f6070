use Rattle.std.proofs.Common.{◌≡◌, None, length}
use Rattle.source_fixes.specs.HintFixes.{last_before}
use Rattle.source_fixes.proofs.hint_fixes.last_before.Given as goal

-- the last of the rest is the last of all
abbrev pub invariant-loop-placed : goal.invariant-loop-placed
invariant-loop-placed l = last_before l.found l.offset l.rest ≡ last_before None l.offset l.text

abbrev pub decreases-loop-placed : goal.decreases-loop-placed
decreases-loop-placed l = length l.rest
