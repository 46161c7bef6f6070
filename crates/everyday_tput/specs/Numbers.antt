-- Numbers that words and variables spell, as C reads them (isspace(3), strtol(3)).
use Rattle.std.specs.Prelude.{ℕ, ◌^◌, ◌-◌, nat_lt, ◌==◌, ◌&&◌, ◌||◌, Bool, if◌then◌else◌, min, List, [], ◌∷◌, length, Option, Some, None, ℤ, pos, neg_ℤ}
use Rattle.std.specs.List.{list_all}
use Rattle.std.specs.Char.{digit_value}
use Rattle.std.specs.Str.Parse.{digits_value, starts_with_minus, without_leading_plus, without_leading_sign}
use Rattle.ti_text.specs.Ascii as ascii
use Rattle.ti_param.specs.Meaning.{in_32_bits}

-- white space: a space, and the bytes from TAB to CR
abbrev pub is_space : ℕ → Bool
is_space byte = byte == ascii.space || (nat_lt 8 byte && nat_lt byte 14)

-- a text from its first byte on that is not white space
unfoldable pub after_space : List ℕ → List ℕ
after_space [] = []
after_space (byte ∷ text) = if is_space byte then after_space text else byte ∷ text

-- digits of a base, at least one
abbrev pub is_numeral : ℕ → List ℕ → Bool
is_numeral base digits = nat_lt 0 (length digits) && list_all (λ digit. nat_lt (digit_value digit) base) digits

-- ---- words

-- the letter that hexadecimal digits have before them, after a 0
abbrev pub is_x : ℕ → Bool
is_x byte = byte == ascii.byte_of "x" || byte == ascii.byte_of "X"

-- the base of a number without a sign: 16 after `0x`, 8 after `0`, else 10
abbrev pub base_of : List ℕ → ℕ
base_of [] = 10
base_of (first ∷ []) = if first == ascii.digit_0 then 8 else 10
base_of (first ∷ (second ∷ rest)) = if first == ascii.digit_0 then (if is_x second then 16 else 8) else 10

-- its digits: what follows `0x`, else all of it
abbrev pub digits_of : List ℕ → List ℕ
digits_of [] = []
digits_of (first ∷ []) = first ∷ []
digits_of (first ∷ (second ∷ rest)) = if first == ascii.digit_0 && is_x second then rest else first ∷ (second ∷ rest)

-- a number as a `long`, which ends at its limits of 64 bits
abbrev pub in_long : Bool → ℕ → ℤ
in_long negative n = if negative then neg_ℤ (pos (min n (2 ^ 63))) else pos (min n (2 ^ 63 - 1))

-- the low 32 bits of the number that is spelled from the sign on; 0 if something else is there
abbrev pub signed_number : List ℕ → ℤ
signed_number text =
    let unsigned = without_leading_sign text in
    if is_numeral (base_of unsigned) (digits_of unsigned)
    then in_32_bits (in_long (starts_with_minus text) (digits_value (base_of unsigned) (digits_of unsigned))) else pos 0

-- the number that a whole word spells to `strtol` of base 0, as an `int`; 0 if it spells none
unfoldable pub word_number : List ℕ → ℤ
word_number word = signed_number (after_space word)

-- ---- sizes

-- the number of these digits, if it is over 0 and below 2^31
abbrev pub decimal_size : List ℕ → Option ℕ
decimal_size digits =
    if is_numeral 10 digits && (nat_lt 0 (digits_value 10 digits) && nat_lt (digits_value 10 digits) (2 ^ 31)) then Some (digits_value 10 digits) else None

-- the whole decimal number over 0 that a text is, as COLUMNS and LINES have it; white space and a
-- plus may be before its digits
unfoldable pub size_in : List ℕ → Option ℕ
size_in text = decimal_size (without_leading_plus (after_space text))
