-- Decimal digits, and the number that they write (own).
use Rattle.std.specs.Prelude.{ℕ, ◌+◌, ◌-◌, ◌*◌, Bool, ◌&&◌, nat_le, List, [], ◌∷◌}
use Rattle.ti_text.specs.Ascii as ascii

-- whether a byte is a decimal digit
abbrev pub is_decimal_digit : ℕ → Bool
is_decimal_digit byte = nat_le ascii.digit_0 byte && nat_le byte ascii.digit_9

-- the number that a digit writes
abbrev pub decimal_digit_value : ℕ → ℕ
decimal_digit_value byte = byte - ascii.digit_0

-- the number that digits write after those of the number given
abbrev pub decimal_from : ℕ → List ℕ → ℕ
decimal_from n [] = n
decimal_from n (d ∷ ds) = decimal_from (10 * n + decimal_digit_value d) ds

-- the number that decimal digits write, 0 if there are none
abbrev pub decimal_value : List ℕ → ℕ
decimal_value digits = decimal_from 0 digits
