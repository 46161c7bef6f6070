use Rattle.std.proofs.Common.{◌≡◌, ◌≤◌, ◌+◌, ◌*◌, ◌^◌, ◌++◌, drop, map}
use Rattle.source_blocks.specs.Symbols.{symbol_seen, symbols_from}
use Rattle.source_blocks.proofs.symbols.symbols_from.Given as goal

abbrev pub invariant-loop-at : goal.invariant-loop-at
invariant-loop-at l = record {
  so : map symbol_seen l.all.items ++ symbols_from l.line (drop l.at l.database) ≡ symbols_from l.first l.database;
  room : l.line ≤ 2 ^ 63 + l.at * 1048576;
}
