use Rattle.std.proofs.Common.{◌≡◌, ◌+◌, ◌^◌, ◌≤◌, length}
use Rattle.source_block_hints.specs.Delays.{delay_from}
use Rattle.source_block_hints.proofs.delays.delay_from.Given as goal

-- the first of the rest is the first of all
abbrev pub invariant-loop-after : goal.invariant-loop-after
invariant-loop-after l = record {
  so : delay_from l.at l.rest ≡ delay_from l.from l.text;
  room : l.at + length l.rest ≤ 2 ^ 63 + 1;
}

abbrev pub decreases-loop-after : goal.decreases-loop-after
decreases-loop-after l = length l.rest
