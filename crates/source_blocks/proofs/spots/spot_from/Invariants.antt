use Rattle.std.proofs.Common.{◌≡◌, ◌≤◌, ◌+◌, ◌*◌, ◌^◌, drop}
use Rattle.source_blocks.specs.Spots.{spot_from}
use Rattle.source_blocks.proofs.spots.spot_from.Given as goal

abbrev pub invariant-loop-at : goal.invariant-loop-at
invariant-loop-at l = record {
  so : spot_from l.at l.start l.place (drop l.at l.database) ≡ spot_from 0 l.first l.place l.database;
  room : l.start ≤ 2 ^ 63 + l.at * 1048576;
}
