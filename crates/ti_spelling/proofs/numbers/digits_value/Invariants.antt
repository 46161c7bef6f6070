use Rattle.std.proofs.Common.{◌≡◌, ◌+◌, true, nat_lt, min, take}
use Rattle.std.specs.List.{list_all}
use Rattle.ti_spelling.specs.Numbers.{digit_value, value_in}
use Rattle.ti_text.specs.Limits.{number_max}
use Rattle.ti_spelling.proofs.numbers.digits_value.Given as goal

abbrev pub invariant-loop-byte : goal.invariant-loop-byte
invariant-loop-byte l = record {
  digits : list_all (λ b. nat_lt (digit_value b) l.base) (take l.byte-index l.digits) ≡ true;
  so_far : l.value ≡ min (value_in l.base (take l.byte-index l.digits)) (number_max + 1);
}
