use Rattle.std.proofs.Common.{◌≡◌, ◌≤◌, ◌+◌, ◌*◌, ◌^◌, drop, option_map}
use Rattle.source_features.specs.RangeFormatting.{joined, lines_seen, touched}
use Rattle.source_features.proofs.range_formatting.touched_lines.Given as goal

-- what was found, and what is touched from the block on
abbrev pub invariant-loop-at : goal.invariant-loop-at
invariant-loop-at l = record {
  so : joined (option_map lines_seen l.found) (touched l.first l.last l.start (drop l.at l.database)) ≡ touched l.first l.last l.head l.database;
  room : l.start ≤ 2 ^ 63 + l.at * 1048576;
}
