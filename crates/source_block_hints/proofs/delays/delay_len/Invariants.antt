use Rattle.std.proofs.Common.{◌≡◌, ◌+◌, length}
use Rattle.source_block_hints.specs.Delays.{is_delay_byte, run_len}
use Rattle.source_block_hints.proofs.delays.delay_len.Given as goal

-- the bytes so far and those to come are all
abbrev pub invariant-loop-byte : goal.invariant-loop-byte
invariant-loop-byte l = record {
  total : l.len + run_len is_delay_byte l.rest ≡ run_len is_delay_byte l.text;
  room : l.len + length l.rest ≡ length l.text;
}

abbrev pub decreases-loop-byte : goal.decreases-loop-byte
decreases-loop-byte l = length l.rest
