use Rattle.std.proofs.Common.{◌≡◌, ◌+◌, ◌≤◌, ◌++◌, length, map}
use Rattle.source_format.specs.Pieces.{kept_from, kept_lines, lines_of}
use Rattle.source_format.specs.inside.Steps.{line_seen}
use Rattle.source_format.proofs.lines.kept_lines.Given as goal

-- what was kept so far, and what will be of the rest, are the kept lines of the block
abbrev pub invariant-loop-rest : goal.invariant-loop-rest
invariant-loop-rest l = record {
  so : map line_seen l.lines.items ++ kept_from l.number (lines_of l.rest) ≡ kept_lines l.fn.block;
  bound : l.number + length l.rest ≤ length l.fn.block + 1;
}

abbrev pub decreases-loop-rest : goal.decreases-loop-rest
decreases-loop-rest l = length l.rest
