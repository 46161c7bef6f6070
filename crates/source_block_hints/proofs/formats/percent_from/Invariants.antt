use Rattle.std.proofs.Common.{◌≡◌, ◌+◌, ◌^◌, ◌≤◌, length}
use Rattle.source_block_hints.specs.Formats.{nth_from}
use Rattle.source_block_hints.proofs.formats.percent_from.Given as goal

-- that of the rest is that of all
abbrev pub invariant-loop-byte : goal.invariant-loop-byte
invariant-loop-byte l = record { so : nth_from 37 l.left l.at l.rest ≡ nth_from 37 l.number l.from l.text; room : l.at + length l.rest ≤ 2 ^ 63 + 1 }

abbrev pub decreases-loop-byte : goal.decreases-loop-byte
decreases-loop-byte l = length l.rest
