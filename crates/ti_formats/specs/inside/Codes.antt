-- The code at the front of a text, and the text after it, computed (own).
use Rattle.std.specs.Prelude.{ℕ, Bool, true, false, ◌&&◌, ◌||◌, List, [], ◌∷◌, length, pos, if◌then◌else◌, ◌==◌, nat_lt, nat_le, Option, Some, None}
use Rattle.std.specs.Prelude.{option_map, is_some}
use Rattle.ti_text.specs.Ascii.{byte_of}
use Rattle.ti_text.specs.Ascii as ascii
use Rattle.ti_text.specs.Digits.{is_decimal_digit, decimal_value}
use Rattle.ti_text.specs.Limits.{number_max}
use Rattle.ti_formats.specs.declared.codes.Code.{Code}
use Rattle.ti_formats.specs.declared.codes.Code.TheVariants.{Print, Parameter, Store, Fetch, Constant}
use Rattle.ti_formats.specs.declared.codes.Token.{Token}
use Rattle.ti_formats.specs.declared.codes.Token.TheVariants.{Literal, Operation, If, Then, Else, EndIf}
use Rattle.ti_printing.specs.declared.printf.Conversion.{Conversion}
use Rattle.ti_printing.specs.declared.printf.Directive.{Directive}
use Rattle.ti_printing.specs.declared.printf.Flags.{Flags}
use Rattle.ti_formats.specs.Codes.{begins_zero, conversions, flags_from, size_max, is_flag, no_flags, parameter_numbered, row_for, simple_tokens}
use Rattle.ti_formats.specs.Codes.{span, variable_named}

-- what a text has at its front, and the text after it, if it has this at its front
abbrev pub Front : Type 0 → Type 0
Front T = Option (T × List ℕ)

-- the code of a parameter, by the text after its `p`
unfoldable pub parameter_after : List ℕ → Front Token
parameter_after [] = None
parameter_after (x ∷ rest) = option_map (λ place. (Operation (Parameter place), rest)) (parameter_numbered x)

-- the code that sets a variable, by the text after its `P`
unfoldable pub store_after : List ℕ → Front Token
store_after [] = None
store_after (x ∷ rest) = option_map (λ variable. (Operation (Store variable), rest)) (variable_named x)

-- the code that gets a variable, by the text after its `g`
unfoldable pub fetch_after : List ℕ → Front Token
fetch_after [] = None
fetch_after (x ∷ rest) = option_map (λ variable. (Operation (Fetch variable), rest)) (variable_named x)

-- the code of a constant that is a byte, by the text after its first quote
unfoldable pub byte_after : List ℕ → Front Token
byte_after [] = None
byte_after (x ∷ []) = None
byte_after (x ∷ (y ∷ rest)) = if y == ascii.apostrophe then Some (Operation (Constant (pos x)), rest) else None

-- the code of a constant with these digits, one or more and within 32 bits, if a `}` follows them
unfoldable pub constant_before : List ℕ → List ℕ → Front Token
constant_before ds [] = None
constant_before ds (x ∷ rest) =
    if (x == ascii.close_brace && nat_lt 0 (length ds)) && nat_le (decimal_value ds) number_max
    then Some (Operation (Constant (pos (decimal_value ds))), rest) else None

-- the code of a constant in digits, by the text after its `{`
unfoldable pub number_after : List ℕ → Front Token
number_after text = constant_before (span is_decimal_digit text).0 (span is_decimal_digit text).1

-- the flags that the first of two texts writes, and the second text
abbrev pub flags_of : List ℕ × List ℕ → Flags × List ℕ
flags_of parts = (flags_from no_flags parts.0, parts.1)

-- the flags at the front of a text, and the text after them
unfoldable pub flags_after : List ℕ → Flags × List ℕ
flags_after [] = (no_flags, [])
flags_after (x ∷ rest) = if x == ascii.colon then flags_of (span (is_flag true) rest) else flags_of (span (is_flag false) (x ∷ rest))

-- the precision that the digits of the first of two texts write, at most 999, and the second text
abbrev pub precision_of : List ℕ × List ℕ → Front (Option ℕ)
precision_of parts = if nat_le (decimal_value parts.0) size_max then Some (Some (decimal_value parts.0), parts.1) else None

-- the precision at the front of a text, none if no `.` is there, and the text after it
unfoldable pub precision_after : List ℕ → Front (Option ℕ)
precision_after [] = Some (None, [])
precision_after (x ∷ rest) = if x == ascii.dot then precision_of (span is_decimal_digit rest) else Some (None, x ∷ rest)

-- the printf form of these flags, a width of these digits, at most 999, and a precision, before its
-- conversion
unfoldable pub directive_with : Flags → List ℕ → Front (Option ℕ) → Front Directive
directive_with flags ds None = None
directive_with flags ds (Some (precision, [])) = None
directive_with flags ds (Some (precision, x ∷ rest)) =
    if nat_le (decimal_value ds) size_max then option_map (λ conversion.
    (record { flags = record flags { zero = begins_zero ds }; width = decimal_value ds; precision = precision; conversion = conversion }, rest))
    (row_for x conversions)
    else None

-- the printf form at the front of a text, and the text after it
unfoldable pub directive_after : List ℕ → Front Directive
directive_after text =
    let flags = flags_after text in
    let width = span is_decimal_digit flags.1 in
    directive_with flags.0 width.0 (precision_after width.1)

-- whether a byte begins a printf form: `:`, a flag, a digit, `.` or a conversion
abbrev pub begins_directive : ℕ → Bool
begins_directive x = (x == ascii.colon || is_flag false x) || (is_decimal_digit x || (x == ascii.dot || is_some (row_for x conversions)))

-- the code that begins with a byte that begins no printf form, by the text after that byte
unfoldable pub letter_after : ℕ → List ℕ → Front Token
letter_after x rest =
    if x == byte_of "p" then parameter_after rest else
    (if x == byte_of "P" then store_after rest else
    (if x == byte_of "g" then fetch_after rest else
    (if x == ascii.apostrophe then byte_after rest else
    (if x == ascii.open_brace then number_after rest else
    option_map (λ token. (token, rest)) (row_for x simple_tokens)))))

-- the code at the front of a text that is after a `%`, and the text after the code
unfoldable pub token_after : List ℕ → Front Token
token_after [] = None
token_after (x ∷ rest) =
    if begins_directive x then option_map (λ found. (Operation (Print found.0), found.1)) (directive_after (x ∷ rest))
    else letter_after x rest

-- what was read, if it is a code by itself
abbrev pub code_of : Front Token → Front Code
code_of None = None
code_of (Some (Literal b, rest)) = None
code_of (Some (Operation c, rest)) = Some (c, rest)
code_of (Some (If, rest)) = None
code_of (Some (Then, rest)) = None
code_of (Some (Else, rest)) = None
code_of (Some (EndIf, rest)) = None

-- the printf form of a conversion alone
abbrev pub plain_form : Conversion → Directive
plain_form conversion = record { flags = no_flags; width = 0; precision = None; conversion = conversion }
