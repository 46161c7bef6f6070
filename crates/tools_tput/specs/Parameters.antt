-- The words of a command as the parameters of a string (tput(1)).
use Rattle.std.specs.Prelude.{ℕ, zero, suc, ◌^◌, nat_le, nat_lt, ◌==◌, ◌&&◌, ◌||◌, Bool, false, if◌then◌else◌, ℤ, pos, neg_ℤ}
use Rattle.std.specs.Prelude.{List, [], ◌∷◌, length, codes, bytes_eq, slice_get, Option, Some, None}
use Rattle.std.specs.Str.{all_ascii_digits}
use Rattle.std.specs.Str.Parse.{digits_value}
use Rattle.ti_text.specs.Ascii as ascii
use Rattle.ti_param.specs.Meaning.{FormatArgument, number, text}

-- ---- numbers

-- decimal digits, at least one
abbrev pub is_numeral : List ℕ → Bool
is_numeral digits = nat_lt 0 (length digits) && all_ascii_digits digits

-- the number that digits without a sign spell, up to 2,147,483,647
abbrev pub positive_number : List ℕ → Option ℤ
positive_number digits =
    if is_numeral digits && nat_lt (digits_value 10 digits) (2 ^ 31) then Some (pos (digits_value 10 digits)) else None

-- the number that digits after a `-` spell, down to -2,147,483,648
abbrev pub negative_number : List ℕ → Option ℤ
negative_number digits =
    if is_numeral digits && nat_le (digits_value 10 digits) (2 ^ 31) then Some (neg_ℤ (pos (digits_value 10 digits))) else None

-- the number that a word spells: an optional `-`, and decimal digits
unfoldable pub word_number : List ℕ → Option ℤ
word_number [] = None
word_number (byte ∷ rest) = if byte == ascii.minus then negative_number rest else positive_number (byte ∷ rest)

-- ---- parameters

-- Whether the word at an index after a capability's name is a string, whatever it spells: the
-- second of pfkey, pfloc, pfx and pln, and the second and third of pfxl.
abbrev pub is_text_parameter : List ℕ → ℕ → Bool
is_text_parameter cap zero = false
is_text_parameter cap (suc zero) =
    bytes_eq cap (codes "pfkey") || bytes_eq cap (codes "pfloc") || bytes_eq cap (codes "pfx") || bytes_eq cap (codes "pln")
    || bytes_eq cap (codes "pfxl")
is_text_parameter cap (suc (suc zero)) = bytes_eq cap (codes "pfxl")
is_text_parameter cap (suc (suc (suc index))) = false

-- a word that spells a number is a number, any other is a string
abbrev pub spelled_argument : List ℕ → Option ℤ → FormatArgument
spelled_argument word None = text word
spelled_argument word (Some n) = number n

-- the word at an index as a parameter of the capability; a word that is not given is the number 0
abbrev pub parameter : List ℕ → ℕ → Option (List ℕ) → FormatArgument
parameter cap index None = number (pos 0)
parameter cap index (Some word) = if is_text_parameter cap index then text word else spelled_argument word (word_number word)

-- the parameter at an index
abbrev pub parameter_at : List ℕ → List (List ℕ) → ℕ → FormatArgument
parameter_at cap words index = parameter cap index (slice_get words index)

-- the nine parameters that the words after a capability's name are
unfoldable pub parameters : List ℕ → List (List ℕ) → List FormatArgument
parameters cap words =
    parameter_at cap words 0 ∷ parameter_at cap words 1 ∷ parameter_at cap words 2 ∷ parameter_at cap words 3 ∷ parameter_at cap words 4
    ∷ parameter_at cap words 5 ∷ parameter_at cap words 6 ∷ parameter_at cap words 7 ∷ parameter_at cap words 8 ∷ []
