use Rattle.std.proofs.Common.{◌≡◌, ◌+◌, length}
use Rattle.ti_text.specs.Digits.{is_decimal_digit}
use Rattle.source_block_hints.specs.Delays.{run_len}
use Rattle.source_block_hints.proofs.delays.digits_len.Given as goal

-- the digits so far and those to come are all
abbrev pub invariant-loop-byte : goal.invariant-loop-byte
invariant-loop-byte l = record {
  total : l.len + run_len is_decimal_digit l.rest ≡ run_len is_decimal_digit l.text;
  room : l.len + length l.rest ≡ length l.text;
}

abbrev pub decreases-loop-byte : goal.decreases-loop-byte
decreases-loop-byte l = length l.rest
