-- The constants of a string as ncurses's tic writes them (terminfo(5), "Parameterized Strings"; tried):
-- a number that is the code of a printed character is that character, so that `%{32}` is `%' '`.
use Rattle.std.specs.Prelude.{ℕ, zero, suc, ◌+◌, ◌-◌, ◌*◌, ◌==◌, nat_le, nat_lt, Bool, ◌&&◌, not, if◌then◌else◌, List, [], ◌∷◌, ◌++◌, take, slice_index}
use Rattle.std.specs.Prelude.{Option, Some, None}
use Rattle.ti_text.specs.Ascii as ascii
use Rattle.ti_text.specs.Digits.{is_decimal_digit, decimal_digit_value}
use Rattle.everyday_constants.specs.declared.constants.Constant.{Constant}

-- ---- a constant

-- a number that is written as a character: the code of one that is printed, and no backslash
abbrev pub is_character : ℕ → Bool
is_character n = nat_le ascii.space n && (nat_lt n ascii.delete && not (n == ascii.backslash))

-- a constant of so many bytes, if it is written as a character
abbrev pub if_character : ℕ → ℕ → Option Constant
if_character value size = if is_character value then Some (record { value = value; size = size }) else None

-- the value of the digit at a place
abbrev pub digit : List ℕ → ℕ → ℕ
digit text at = decimal_digit_value (slice_index text at)

-- whether a text begins with `%{` and two digits, of which the first is not 0
abbrev pub begins_number : List ℕ → Bool
begins_number text =
    (slice_index text 0 == ascii.percent && slice_index text 1 == ascii.open_brace)
    && (is_decimal_digit (slice_index text 2) && (is_decimal_digit (slice_index text 3) && not (slice_index text 2 == ascii.digit_0)))

-- the constant at the front of a text that is written as a character, if one is: `%{N}` of two or
-- three digits
abbrev pub constant_at : List ℕ → Option Constant
constant_at text =
    if not (begins_number text) then None
    else (if slice_index text 4 == ascii.close_brace then if_character (10 * digit text 2 + digit text 3) 5
    else (if is_decimal_digit (slice_index text 4) && slice_index text 5 == ascii.close_brace
    then if_character (10 * (10 * digit text 2 + digit text 3) + digit text 4) 6
    else None))

-- ---- a string

-- how many bytes at the front of a text stay as they are if no such constant is there: a backslash
-- keeps what follows it, a `%` with the byte after it, and `%%` is a code by itself
abbrev pub kept_size : List ℕ → ℕ
kept_size text =
    if slice_index text 0 == ascii.backslash then (if slice_index text 1 == ascii.percent then 3 else 2)
    else (if slice_index text 0 == ascii.percent && slice_index text 1 == ascii.percent then 2 else 1)

-- how many bytes the piece at the front of a text has, by the constant that is there
abbrev pub size_by : Option Constant → List ℕ → ℕ
size_by None text = kept_size text
size_by (Some constant) text = constant.size

-- what is written of this piece
abbrev pub text_by : Option Constant → List ℕ → List ℕ
text_by None text = take (kept_size text) text
text_by (Some constant) text = ascii.percent ∷ ascii.apostrophe ∷ constant.value ∷ ascii.apostrophe ∷ []

-- one piece after the other, of which so many bytes are left of one that was written
abbrev pub written_from : ℕ → List ℕ → List ℕ
written_from left [] = []
written_from (suc left) (x ∷ xs) = written_from left xs
written_from zero (x ∷ xs) = text_by (constant_at (x ∷ xs)) (x ∷ xs) ++ written_from (size_by (constant_at (x ∷ xs)) (x ∷ xs) - 1) xs

-- a string with its constants as characters
abbrev pub with_characters : List ℕ → List ℕ
with_characters text = written_from 0 text
