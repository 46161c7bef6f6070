use Rattle.std.proofs.Common.{◌≡◌, ◌≤◌, ◌+◌, ◌*◌, ◌^◌}
use Rattle.base_meaning.specs.Report.{lines_before}
use Rattle.source_blocks.proofs.spots.block_line.Given as goal

abbrev pub invariant-loop-before : goal.invariant-loop-before
invariant-loop-before l = record {
  so : l.line ≡ l.first + lines_before l.database l.before;
  room : l.line ≤ 2 ^ 63 + l.before * 1048576;
}
