use Rattle.std.proofs.Common.{◌≡◌, ◌++◌, length}
use Rattle.everyday_converting.specs.Strings.{source_from, source_with}
use Rattle.everyday_converting.proofs.strings.source_with.Given as goal

-- what was written, and what is to be written of the rest
abbrev pub invariant-loop-rest : goal.invariant-loop-rest
invariant-loop-rest l = l.out.items ++ source_from l.caret l.percent l.first l.rest ≡ source_with l.caret l.text

abbrev pub decreases-loop-rest : goal.decreases-loop-rest
decreases-loop-rest l = length l.rest
