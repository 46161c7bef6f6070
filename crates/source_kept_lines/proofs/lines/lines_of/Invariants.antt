use Rattle.std.proofs.Common.{◌≡◌, ◌++◌, length, map}
use Rattle.source_format.specs.Pieces.{lines_of}
use Rattle.source_kept_lines.proofs.lines.lines_of.Given as goal

abbrev pub invariant-loop-rest : goal.invariant-loop-rest
invariant-loop-rest l = map (λ line. line.now) l.lines.items ++ lines_of l.rest ≡ lines_of l.fn.block

abbrev pub decreases-loop-rest : goal.decreases-loop-rest
decreases-loop-rest l = length l.rest
