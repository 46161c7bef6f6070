-- The codes of a parameter string: the table under "Parameterized Strings" of terminfo(5), after
-- the `%`. A text has at most one of them at its front, and `IsCode` says which.
use Rattle.std.specs.Prelude.{◌≡◌, ℕ, ◌-◌, ◌<◌, ◌≤◌, Bool, true, false, ◌&&◌, ◌||◌, List, [], ◌∷◌, ◌++◌, length, map, pos, if◌then◌else◌, ◌==◌, nat_le, Option}
use Rattle.std.specs.Prelude.{Some, None}
use Rattle.ti_text.specs.Ascii.{byte_of}
use Rattle.ti_text.specs.Ascii as ascii
use Rattle.ti_text.specs.Digits.{is_decimal_digit, decimal_value}
use Rattle.ti_text.specs.Limits.{number_max}
use Rattle.ti_text.specs.Lists.{AllAre}
use Rattle.ti_formats.specs.declared.codes.Code.TheVariants.{Percent, Character, Print, Parameter, Store, Fetch, Constant, Length, Binary, Not, Complement}
use Rattle.ti_formats.specs.declared.codes.Code.TheVariants.{Increment}
use Rattle.ti_formats.specs.declared.codes.Operator.{Operator}
use Rattle.ti_formats.specs.declared.codes.Operator.TheVariants.{Add, Subtract, Multiply, Divide, Remainder, BitAnd, BitOr, BitXor, Equal, Greater, Less, And, Or}
use Rattle.ti_formats.specs.declared.codes.Token.{Token}
use Rattle.ti_formats.specs.declared.codes.Token.TheVariants.{Operation, If, Then, Else, EndIf}
use Rattle.ti_formats.specs.declared.codes.Variable.{Variable}
use Rattle.ti_formats.specs.declared.codes.Variable.TheVariants.{Dynamic, Static}
use Rattle.ti_printing.specs.declared.printf.Conversion.{Conversion}
use Rattle.ti_printing.specs.declared.printf.Conversion.TheVariants.{Decimal, Octal, LowerHex, UpperHex, Text}
use Rattle.ti_printing.specs.declared.printf.Directive.{Directive}
use Rattle.ti_printing.specs.declared.printf.Flags.{Flags}

-- ---- rows and runs

-- what a table has for a byte
abbrev pub row_for : {T : Type 0} → ℕ → List (ℕ × T) → Option T
row_for x [] = None
row_for x (row ∷ rows) = if x == row.0 then Some row.1 else row_for x rows

-- the longest front whose bytes pass the test, and what follows it
abbrev pub span : (ℕ → Bool) → List ℕ → List ℕ × List ℕ
span p [] = ([], [])
span p (x ∷ xs) = if p x then (x ∷ (span p xs).0, (span p xs).1) else ([], x ∷ xs)

-- ---- codes of one letter

-- the codes of the operators on two numbers
abbrev pub operators : List (ℕ × Operator)
operators =
    (ascii.plus, Add) ∷ ((ascii.minus, Subtract) ∷ ((ascii.asterisk, Multiply) ∷ ((ascii.slash, Divide) ∷ ((byte_of "m", Remainder) ∷ (
    (ascii.ampersand, BitAnd) ∷ ((ascii.bar, BitOr) ∷ ((ascii.caret, BitXor) ∷ (
    (ascii.equals, Equal) ∷ ((ascii.greater_than, Greater) ∷ ((ascii.less_than, Less) ∷ ((byte_of "A", And) ∷ ((byte_of "O", Or) ∷ []))))))))))))

-- the codes of one byte, those of the operators among them
abbrev pub simple_tokens : List (ℕ × Token)
simple_tokens =
    (ascii.percent, Operation Percent) ∷ ((byte_of "c", Operation Character) ∷ ((byte_of "l", Operation Length) ∷ (
    (byte_of "i", Operation Increment) ∷ ((ascii.exclamation_mark, Operation Not) ∷ ((ascii.tilde, Operation Complement) ∷ (
    (ascii.question_mark, If) ∷ ((byte_of "t", Then) ∷ ((byte_of "e", Else) ∷ ((ascii.semicolon, EndIf) ∷
    map (λ row. (row.0, Operation (Binary row.1))) operators)))))))))

-- ---- parameters, variables and constants

-- the place of the parameter that `%p1` to `%p9` names
abbrev pub parameter_numbered : ℕ → Option ℕ
parameter_numbered x = if nat_le (byte_of "1") x && nat_le x ascii.digit_9 then Some (x - byte_of "1") else None

-- a small letter names a dynamic variable, a capital a static one
abbrev pub variable_named : ℕ → Option Variable
variable_named x =
    if nat_le (byte_of "a") x && nat_le x (byte_of "z") then Some (Dynamic (x - byte_of "a"))
    else (if nat_le (byte_of "A") x && nat_le x (byte_of "Z") then Some (Static (x - byte_of "A")) else None)

-- ---- printf forms

-- the conversions of a printf form, by their letters
abbrev pub conversions : List (ℕ × Conversion)
conversions =
    (byte_of "d", Decimal) ∷ ((byte_of "o", Octal) ∷ ((byte_of "x", LowerHex) ∷ ((byte_of "X", UpperHex) ∷ ((byte_of "s", Text) ∷ []))))

-- the flags; `-` and `+` are flags only after a `:`, since `%-` and `%+` are operators
abbrev pub is_flag : Bool → ℕ → Bool
is_flag signed x = (x == ascii.number_sign || x == ascii.space) || (signed && (x == ascii.minus || x == ascii.plus))

-- none of the flags is set
abbrev pub no_flags : Flags
no_flags = record { left = false; sign = false; alternate = false; space = false; zero = false }

-- the flags with that of a byte
abbrev pub with_flag : Flags → ℕ → Flags
with_flag flags x = record {
  left = if x == ascii.minus then true else flags.left;
  sign = if x == ascii.plus then true else flags.sign;
  alternate = if x == ascii.number_sign then true else flags.alternate;
  space = if x == ascii.space then true else flags.space;
  zero = flags.zero;
}

-- the flags with those of the bytes
abbrev pub flags_from : Flags → List ℕ → Flags
flags_from flags [] = flags
flags_from flags (x ∷ xs) = flags_from (with_flag flags x) xs

-- the texts of flags
pub data IsFlags : List ℕ → Flags → Type 0 where
  signed_flags : (xs : List ℕ) → AllAre (is_flag true) xs → IsFlags (ascii.colon ∷ xs) (flags_from no_flags xs)
  plain_flags : (xs : List ℕ) → AllAre (is_flag false) xs → IsFlags xs (flags_from no_flags xs)

-- the greatest width and precision (own)
abbrev pub size_max : ℕ
size_max = 999

-- the texts of a precision; `.` without digits is 0
pub data IsPrecision : List ℕ → Option ℕ → Type 0 where
  without_precision : IsPrecision [] None
  with_precision : (ds : List ℕ) → AllAre is_decimal_digit ds → decimal_value ds ≤ size_max → IsPrecision (ascii.dot ∷ ds) (Some (decimal_value ds))

-- a leading 0 of the width
abbrev pub begins_zero : List ℕ → Bool
begins_zero [] = false
begins_zero (d ∷ ds) = d == ascii.digit_0

-- the texts of a printf form: flags, width, precision, conversion
pub data IsDirective : List ℕ → Directive → Type 0 where
  directive : (fs ds ps : List ℕ) (x : ℕ) {flags : Flags} {precision : Option ℕ} {conversion : Conversion} →
      IsFlags fs flags → AllAre is_decimal_digit ds → decimal_value ds ≤ size_max → IsPrecision ps precision → row_for x conversions ≡ Some conversion →
      IsDirective (fs ++ (ds ++ (ps ++ x ∷ [])))
      (record { flags = record flags { zero = begins_zero ds }; width = decimal_value ds; precision = precision; conversion = conversion })

-- ---- the table

-- the texts of the codes, without the `%`
pub data IsCode : List ℕ → Token → Type 0 where
  simple_code : (x : ℕ) {token : Token} → row_for x simple_tokens ≡ Some token → IsCode (x ∷ []) token
  parameter_code : (x : ℕ) {place : ℕ} → parameter_numbered x ≡ Some place → IsCode (byte_of "p" ∷ (x ∷ [])) (Operation (Parameter place))
  store_code : (x : ℕ) {variable : Variable} → variable_named x ≡ Some variable → IsCode (byte_of "P" ∷ (x ∷ [])) (Operation (Store variable))
  fetch_code : (x : ℕ) {variable : Variable} → variable_named x ≡ Some variable → IsCode (byte_of "g" ∷ (x ∷ [])) (Operation (Fetch variable))
  byte_code : (x : ℕ) → IsCode (ascii.apostrophe ∷ (x ∷ (ascii.apostrophe ∷ []))) (Operation (Constant (pos x)))
  number_code : (ds : List ℕ) → AllAre is_decimal_digit ds → 0 < length ds → decimal_value ds ≤ number_max →
      IsCode (ascii.open_brace ∷ (ds ++ ascii.close_brace ∷ [])) (Operation (Constant (pos (decimal_value ds))))
  print_code : (text : List ℕ) {form : Directive} → IsDirective text form → IsCode text (Operation (Print form))

-- the law of codes: no code's text begins another's, so a text has at most one code at its front
abbrev pub OneCode : Type 0
OneCode = (front other rest left : List ℕ) (token t : Token) → front ++ rest ≡ other ++ left → IsCode front token → IsCode other t → (token ≡ t) × (rest ≡ left)
