use Rattle.std.proofs.Common.{◌≡◌, ◌^◌, ◌-◌, ℕ, true, take}
use Rattle.std.specs.Prelude.{min, nat_lt}
use Rattle.std.specs.Char.{digit_value}
use Rattle.std.specs.List.{list_all}
use Rattle.std.specs.Str.Parse.{digits_value}
use Rattle.everyday_tput.proofs.numbers.numeral.Given as goal

-- the digits so far
abbrev pub invariant-loop-byte : goal.invariant-loop-byte
invariant-loop-byte l = record {
  all : list_all (λ (digit : ℕ). nat_lt (digit_value digit) l.base) (take l.byte-index l.digits) ≡ true;
  value : l.number ≡ min (digits_value l.base (take l.byte-index l.digits)) (2 ^ 64 - 1);
}
