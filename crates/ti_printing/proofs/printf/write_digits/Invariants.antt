use Rattle.std.proofs.Common.{◌≡◌, ◌≤◌, ◌++◌, length, drop, map}
use Rattle.std.specs.Fmt.{digit_glyph}
use Rattle.std.specs.Int.Digits.{digits_of}
use Rattle.ti_printing.proofs.printf.write_digits.Given as goal

-- the digits to come and those in the buffer are the numeral, and there is room for those to come
abbrev pub invariant-loop-rest : goal.invariant-loop-rest
invariant-loop-rest l = record {
  room : length (digits_of l.base l.rest) ≤ l.at;
  bound : l.at ≤ 11;
  written : map (digit_glyph l.upper) (digits_of l.base l.rest) ++ drop l.at l.buffer ≡ map (digit_glyph l.upper) (digits_of l.base l.fn.number);
}

abbrev pub decreases-loop-rest : goal.decreases-loop-rest
decreases-loop-rest l = l.rest
