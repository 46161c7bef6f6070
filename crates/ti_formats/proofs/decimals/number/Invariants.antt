use Rattle.std.proofs.Common.{◌≡◌, ◌^◌, ◌-◌, ◌<◌, min, length}
use Rattle.ti_formats.specs.Codes.{span}
use Rattle.ti_text.specs.Digits.{is_decimal_digit, decimal_value, decimal_from}
use Rattle.ti_formats.proofs.decimals.number.Given as goal

-- the digits that are left finish the number
abbrev pub invariant-loop-byte : goal.invariant-loop-byte
invariant-loop-byte l = record {
  fits : l.value < 2 ^ 32;
  value : min (decimal_from l.value (span is_decimal_digit l.rest).0) (2 ^ 32 - 1) ≡ min (decimal_value (span is_decimal_digit l.text).0) (2 ^ 32 - 1);
  rest : (span is_decimal_digit l.rest).1 ≡ (span is_decimal_digit l.text).1;
}

abbrev pub decreases-loop-byte : goal.decreases-loop-byte
decreases-loop-byte l = length l.rest
