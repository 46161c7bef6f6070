use Rattle.std.proofs.Common.{◌≡◌, ◌+◌, ◌^◌, ◌≤◌, length}
use Rattle.source_block_hints.specs.Commas.{broken_from}
use Rattle.source_block_hints.proofs.commas.broken_from.Given as goal

-- the first of the rest is the first of all
abbrev pub invariant-loop-byte : goal.invariant-loop-byte
invariant-loop-byte l = record {
  so : broken_from l.text l.at l.rest ≡ broken_from l.text 0 l.item;
  room : l.at + length l.rest ≤ 2 ^ 63;
}

abbrev pub decreases-loop-byte : goal.decreases-loop-byte
decreases-loop-byte l = length l.rest
