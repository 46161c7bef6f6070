-- The cut of a text into paddings and other bytes, computed (own).
use Rattle.std.specs.Prelude.{ℕ, zero, suc, ◌+◌, ◌-◌, ◌*◌, Bool, true, false, List, [], ◌∷◌, length, drop, take, if◌then◌else◌, ◌==◌, Option, Some, None}
use Rattle.std.specs.Prelude.{option_and_then}
use Rattle.ti_text.specs.Ascii as ascii
use Rattle.ti_text.specs.Digits.{is_decimal_digit, decimal_digit_value, decimal_value}
use Rattle.ti_printing.specs.declared.padding.Line.{Line}
use Rattle.ti_printing.specs.declared.padding.Padding.{Padding}
use Rattle.ti_printing.specs.declared.padding.Part.{Part}
use Rattle.ti_printing.specs.declared.padding.Part.TheVariants.{Literal, Delay}
use Rattle.ti_printing.specs.Padding.{delay_digits_max, padded_parts, padding_of_parts}

-- what follows the byte, if the text begins with it
abbrev pub after_byte : ℕ → List ℕ → Option (List ℕ)
after_byte byte [] = None
after_byte byte (first ∷ rest) = if first == byte then Some rest else None

-- how many digits the text begins with, `most` at most
abbrev pub digits_len : ℕ → List ℕ → ℕ
digits_len zero text = 0
digits_len (suc most) [] = 0
digits_len (suc most) (byte ∷ text) = if is_decimal_digit byte then suc (digits_len most text) else 0

-- the number and what follows it
abbrev pub milliseconds_at : List ℕ → Option (ℕ × List ℕ)
milliseconds_at text = let len = digits_len delay_digits_max text in
    if len == 0 then None else Some (decimal_value (take len text), drop len text)

-- the tenths and what follows them, given what follows a `.`, if one is there
abbrev pub tenths_in : Option (List ℕ) → List ℕ → ℕ × List ℕ
tenths_in None text = (0, text)
tenths_in (Some []) text = (0, text)
tenths_in (Some (digit ∷ rest)) text = if is_decimal_digit digit then (decimal_digit_value digit, rest) else (0, text)

-- the tenths that the text begins with, 0 if there are none, and what follows them
abbrev pub tenths_at : List ℕ → ℕ × List ℕ
tenths_at text = tenths_in (after_byte ascii.dot text) text

-- whether a mark is at the front, and what follows it; else the text
abbrev pub mark_in : Option (List ℕ) → List ℕ → Bool × List ℕ
mark_in None text = (false, text)
mark_in (Some rest) text = (true, rest)

-- whether the text begins with the byte, and what follows
abbrev pub mark_at : ℕ → List ℕ → Bool × List ℕ
mark_at byte text = mark_in (after_byte byte text) text

-- whether `*` and `/` are there, and what follows
abbrev pub marks_at : List ℕ → Bool × Bool × List ℕ
marks_at text =
    let first = mark_at ascii.asterisk text in
    let slash = mark_at ascii.slash first.1 in
    let last = if first.0 then (true, slash.1) else mark_at ascii.asterisk slash.1 in
    (last.0, slash.0, last.1)

-- the padding with that time, if a `>` follows its marks
abbrev pub padding_with : ℕ → Bool × Bool × List ℕ → Option (Padding × List ℕ)
padding_with time marks =
    option_and_then (λ rest. Some (record { tenths = time; proportional = marks.0; mandatory = marks.1 }, rest)) (after_byte ascii.greater_than marks.2)

-- the padding with these milliseconds, which the text after them goes on with, and what follows it
abbrev pub padding_from : ℕ × List ℕ → Option (Padding × List ℕ)
padding_from whole = let part = tenths_at whole.1 in padding_with (10 * whole.0 + part.0) (marks_at part.1)

-- the padding that the text begins with, and what follows it
unfoldable pub padding_at : List ℕ → Option (Padding × List ℕ)
padding_at text =
    option_and_then (λ opened. option_and_then (λ inner. option_and_then padding_from (milliseconds_at inner)) (after_byte ascii.less_than opened))
    (after_byte ascii.dollar text)

-- the first part of a text: the padding that it begins with, else its first byte
abbrev pub first_part : Option (Padding × List ℕ) → ℕ → Part
first_part None byte = Literal byte
first_part (Some found) byte = Delay found.0

-- how many bytes of the text belong to a padding that began before it
abbrev pub taken_by : Option (Padding × List ℕ) → List ℕ → ℕ
taken_by None text = 0
taken_by (Some found) text = length text - length found.1

-- the parts after the given number of bytes
abbrev pub parts_after : ℕ → List ℕ → List Part
parts_after taken [] = []
parts_after (suc taken) (byte ∷ text) = parts_after taken text
parts_after zero (byte ∷ text) =
    first_part (padding_at (byte ∷ text)) byte ∷ parts_after (taken_by (padding_at (byte ∷ text)) text) text

-- the parts of a text: its paddings, and the bytes at which none begins
unfoldable pub parts_of : List ℕ → List Part
parts_of text = parts_after 0 text

-- the text with each padding as its pad bytes
unfoldable pub with_pad_bytes : List ℕ → ℕ → Line → List ℕ
with_pad_bytes text lines line = padded_parts lines line (parts_of text)

-- how many pad bytes the parts have in all
unfoldable pub padding_of : List ℕ → ℕ → Line → ℕ
padding_of text lines line = padding_of_parts lines line (parts_of text)
