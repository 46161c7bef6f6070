use Rattle.std.proofs.Common.{◌≡◌, ◌≤◌, ◌+◌, ◌*◌, ◌^◌, ◌++◌, drop}
use Rattle.source_names.specs.Names.{ranges_from}
use Rattle.source_names.specs.inside.Seeking.{sought_seen}
use Rattle.source_names.proofs.names.push_all.Given as goal

abbrev pub invariant-loop-at : goal.invariant-loop-at
invariant-loop-at l = record {
  so : l.ranges.items ++ ranges_from l.database (sought_seen l.sought) l.at l.line (drop l.at l.database)
      ≡ l.fn.ranges.items ++ ranges_from l.database (sought_seen l.sought) 0 l.first l.database;
  room : l.line ≤ 2 ^ 63 + l.at * 1048576;
}
