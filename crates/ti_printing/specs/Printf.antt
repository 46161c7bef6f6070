-- What a printf form of a parameter string prints: terminfo(5), "Parameterized Strings", and
-- printf(3) for the flags, the width and the precision that it takes over.
use Rattle.std.specs.Prelude.{◌≡◌, ℕ, ◌-◌, ◌^◌, ◌<◌, ◌≤◌, Bool, true, false, not, ◌&&◌, List, [], ◌∷◌, ◌++◌, length, map, take, replicate, ℤ, pos, negsuc}
use Rattle.std.specs.Prelude.{if◌then◌else◌, ◌==◌, unsigned_abs, Option, Some, None, unwrap_or, is_none, ◌↔◌}
use Rattle.std.specs.Fmt.{digit_glyph}
use Rattle.ti_text.specs.Ascii.{byte_of}
use Rattle.ti_text.specs.Ascii as ascii
use Rattle.std.specs.Int.{int_rem_euclid}
use Rattle.std.specs.Int.Digits.{digits_of, number_from_digits, AllBelowBase}
use Rattle.ti_printing.specs.declared.printf.Flags.{Flags}
use Rattle.ti_printing.specs.declared.printf.Conversion.{Conversion}
use Rattle.ti_printing.specs.declared.printf.Conversion.TheVariants.{Decimal, Octal, LowerHex, UpperHex, Text}
use Rattle.ti_printing.specs.declared.printf.Directive.{Directive}

-- the first digit is not 0
abbrev pub BeginsAboveZero : List ℕ → Type 0
BeginsAboveZero [] = Unit {0}
BeginsAboveZero (d ∷ ds) = 0 < d

-- `ds` is the numeral of `n`: digits of the base, without a leading 0, whose number is `n`
pub record IsNumeralOf (base n : ℕ) (ds : List ℕ) : Type 0 where
  pub digits : AllBelowBase base ds
  pub plain : BeginsAboveZero ds
  pub number : number_from_digits base ds ≡ n

-- the law of numerals: each number has exactly one, and it is `digits_of`
abbrev pub OneNumeral : Type 0
OneNumeral = (base n : ℕ) → 2 ≤ base → (ds : List ℕ) → IsNumeralOf base n ds ↔ (ds ≡ digits_of base n)

-- the number modulo 2^32, which all number conversions but `d` print
abbrev pub unsigned_of : ℤ → ℕ
unsigned_of number = unsigned_abs (int_rem_euclid number (pos (2 ^ 32)))

-- the numeral of the number under a conversion, as bytes; 0 has no digits
abbrev pub numeral : Conversion → ℤ → List ℕ
numeral Decimal number = map (digit_glyph false) (digits_of 10 (unsigned_abs number))
numeral Octal number = map (digit_glyph false) (digits_of 8 (unsigned_of number))
numeral LowerHex number = map (digit_glyph false) (digits_of 16 (unsigned_of number))
numeral UpperHex number = map (digit_glyph true) (digits_of 16 (unsigned_of number))
numeral Text number = []

-- at least as many digits as the number says, by zeros in front
abbrev pub at_least : ℕ → List ℕ → List ℕ
at_least count digits = replicate (count - length digits) ascii.digit_0 ++ digits

-- a leading 0 if there is none
abbrev pub with_leading_zero : List ℕ → List ℕ
with_leading_zero [] = ascii.digit_0 ∷ []
with_leading_zero (digit ∷ digits) = if digit == ascii.digit_0 then digit ∷ digits else ascii.digit_0 ∷ (digit ∷ digits)

-- the digits that are printed: the precision is their least count, and is 1 if none is given; `#`
-- gives `o` a leading 0
abbrev pub digits_in : Conversion → Flags → Option ℕ → List ℕ → List ℕ
digits_in Octal flags precision digits =
    if flags.alternate then with_leading_zero (at_least (unwrap_or precision 1) digits) else at_least (unwrap_or precision 1) digits
digits_in conversion flags precision digits = at_least (unwrap_or precision 1) digits

-- the sign place, which only `d` has: `-` below 0, else the `+` or the space that a flag asks for;
-- `+` comes first
abbrev pub sign_in : Conversion → Flags → ℤ → List ℕ
sign_in Decimal flags (negsuc n) = ascii.minus ∷ []
sign_in Decimal flags (pos n) = if flags.sign then ascii.plus ∷ [] else (if flags.space then ascii.space ∷ [] else [])
sign_in conversion flags number = []

-- the prefix `0x` or `0X` that `#` gives a number other than 0
abbrev pub prefix_in : Conversion → Flags → ℤ → List ℕ
prefix_in LowerHex flags number = if flags.alternate && not (unsigned_of number == 0) then ascii.digit_0 ∷ (byte_of "x" ∷ []) else []
prefix_in UpperHex flags number = if flags.alternate && not (unsigned_of number == 0) then ascii.digit_0 ∷ (byte_of "X" ∷ []) else []
prefix_in conversion flags number = []

-- the text, and blanks after it up to the width
abbrev pub blanks_after : ℕ → List ℕ → List ℕ
blanks_after width text = text ++ replicate (width - length text) ascii.space

-- blanks up to the width, and the text
abbrev pub blanks_before : ℕ → List ℕ → List ℕ
blanks_before width text = replicate (width - length text) ascii.space ++ text

-- a leading 0 of the width pads a number with zeros, but not if there is a precision
abbrev pub pads_with_zeros : Flags → Option ℕ → Bool
pads_with_zeros flags precision = flags.zero && is_none precision

-- the front of a number, which is its sign and prefix, and its digits, up to the width
abbrev pub in_width : Directive → List ℕ → List ℕ → List ℕ
in_width directive front digits =
    if directive.flags.left then blanks_after directive.width (front ++ digits) else
    (if pads_with_zeros directive.flags directive.precision then front ++ at_least (directive.width - length front) digits else
    blanks_before directive.width (front ++ digits))

-- what a number conversion prints
abbrev pub printed_number : Directive → ℤ → List ℕ
printed_number directive number = in_width directive
    (sign_in directive.conversion directive.flags number ++ prefix_in directive.conversion directive.flags number)
    (digits_in directive.conversion directive.flags directive.precision (numeral directive.conversion number))

-- at most as many bytes of the text as the precision says
abbrev pub cut_to_precision : Option ℕ → List ℕ → List ℕ
cut_to_precision None text = text
cut_to_precision (Some most) text = take most text

-- what `s` prints
abbrev pub printed_text : Directive → List ℕ → List ℕ
printed_text directive text =
    if directive.flags.left then blanks_after directive.width (cut_to_precision directive.precision text)
    else blanks_before directive.width (cut_to_precision directive.precision text)

-- what a form prints of what it popped: `number` if it was a number, `text` if it was a string
abbrev pub printed_by : Conversion → Directive → ℤ → List ℕ → List ℕ
printed_by Text directive number text = printed_text directive text
printed_by conversion directive number text = printed_number directive number

-- what a form prints of what it popped, by its conversion
unfoldable pub form_bytes : Directive → ℤ → List ℕ → List ℕ
form_bytes directive number text = printed_by directive.conversion directive number text
