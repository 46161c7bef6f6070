-- `me` in the place of `sgr0` (ncurses's `_nc_trim_sgr0`): readers of termcap take `as` and `ae` for the
-- alternate character set, so the end of all other attributes is to leave it alone.
use Rattle.std.specs.Prelude.{◌≡◌, ◌⊎◌, ℕ, zero, suc, ◌+◌, ◌-◌, ◌==◌, nat_le, nat_lt, Bool, true, false, ◌&&◌, ◌||◌, not, if◌then◌else◌, List, [], ◌∷◌, ◌++◌, length, take, drop, codes}
use Rattle.std.specs.Prelude.{slice_index, take_while, replicate, Option, Some, None, ℤ, pos}
use Rattle.ti_text.specs.Ascii as ascii
use Rattle.ti_text.specs.Ascii.{byte_of}
use Rattle.ti_text.specs.Digits.{is_decimal_digit}
use Rattle.ti_formats.specs.Formats.{IsStuck}
use Rattle.ti_layout.specs.Values.{Contents}
use Rattle.ti_param.specs.Meaning.{FormatArgument, number, no_variables}
use Rattle.ti_param.specs.Expansion.{Expands, Overflows}
use Rattle.everyday_termcap.specs.Contents.{text_said}
use Rattle.everyday_converting.specs.Pieces.{begins}
use Rattle.everyday_termcap.specs.declared.reset.Part.{Part}

-- ---- a part of a text, whatever its delays are

-- a byte that a delay may have before its `>`
abbrev pub is_in_delay : ℕ → Bool
is_in_delay x = is_decimal_digit x || x == ascii.slash

-- how many of these are at the front of a text
abbrev pub number_length : List ℕ → ℕ
number_length text = length (take_while is_in_delay text)

-- how many bytes of a delay are after its `$<`
abbrev pub rest_of_delay : List ℕ → ℕ
rest_of_delay text = if slice_index text (number_length text) == ascii.greater_than then number_length text + 1 else number_length text

-- how many bytes the delay at the front of a text has; 0 if there is none
abbrev pub delay_length : List ℕ → ℕ
delay_length text = if begins text (codes "$<") then 2 + rest_of_delay (drop 2 text) else 0

-- whether a text begins with this byte
abbrev pub begins_with : ℕ → List ℕ → Bool
begins_with x text = nat_lt 0 (length text) && slice_index text 0 == x

-- whether delays are at the front of both
abbrev pub are_delays : List ℕ → List ℕ → Bool
are_delays one other = nat_lt 0 (delay_length one) && nat_lt 0 (delay_length other)

-- how many bytes of a text are those of a part at its front; 0 if it does not begin so. A delay of the
-- part is any delay of the text, and does not count at the end. So many bytes are left of a delay of
-- the part, and so many were counted, and wait to be.
abbrev pub matched_from : (left used pending : ℕ) → List ℕ → List ℕ → ℕ
matched_from left used pending [] text = used
matched_from (suc left) used pending (x ∷ part) text = matched_from left used pending part text
matched_from zero used pending (x ∷ part) text =
    if not (begins_with x text) then 0
    else (if are_delays (x ∷ part) text
    then matched_from (delay_length (x ∷ part) - 1) (used + pending) (delay_length text) part (drop (delay_length text) text)
    else matched_from 0 (used + pending + 1) 0 part (drop 1 text))

abbrev pub matched : List ℕ → List ℕ → ℕ
matched part text = matched_from 0 0 0 part text

-- where a part is, and how many bytes it has
abbrev pub part : (place size : ℕ) → Part
part place size = record { place = place; size = size }

-- the first place of a text with a part, from a place on, at so many places
unfoldable pub part_from : List ℕ → List ℕ → (place tries : ℕ) → Option Part
part_from text sought place zero = None
part_from text sought place (suc tries) =
    if nat_lt 0 (matched sought (drop place text)) then Some (part place (matched sought (drop place text)))
    else part_from text sought (place + 1) tries

-- the part of a longer text
abbrev pub part_of : List ℕ → List ℕ → Option Part
part_of text sought = if nat_lt (length sought) (length text) then part_from text sought 0 (length text - length sought + 1) else None

-- the first place of a text that is another text
unfoldable pub same_from : List ℕ → List ℕ → (place tries : ℕ) → Option Part
same_from text sought place zero = None
same_from text sought place (suc tries) =
    if begins (drop place text) sought then Some (part place (length sought)) else same_from text sought (place + 1) tries

abbrev pub same_of : List ℕ → List ℕ → Option Part
same_of text sought = if nat_lt (length sought) (length text) then same_from text sought 0 (length text - length sought + 1) else None

-- a text without a part
abbrev pub without : List ℕ → Part → List ℕ
without text p = take p.place text ++ drop p.size (drop p.place text)

-- ---- sequences

abbrev pub is_letter : ℕ → Bool
is_letter x = (nat_le (byte_of "a") x && nat_le x (byte_of "z")) || (nat_le (byte_of "A") x && nat_le x (byte_of "Z"))

-- how many bytes a first 0 of a sequence has, with the `;` after it
abbrev pub zero_size : List ℕ → ℕ
zero_size text =
    if slice_index text 0 == ascii.digit_0
    then (if slice_index text 1 == ascii.semicolon then 2 else (if is_letter (slice_index text 1) then 1 else 0))
    else 0

-- whether a text begins a control sequence
abbrev pub is_sequence : List ℕ → Bool
is_sequence text = begins text (ascii.escape ∷ codes "[")

-- whether one text is the front of the other, and neither is empty
abbrev pub are_alike : List ℕ → List ℕ → Bool
are_alike one other = nat_lt 0 (length one) && (nat_lt 0 (length other) && (begins one other || begins other one))

-- the same of sequences, whatever a first 0 of them
abbrev pub after_zeros : List ℕ → List ℕ → Bool
after_zeros one other =
    if slice_index one 0 == slice_index other 0 then are_alike one other
    else are_alike (drop (zero_size one) one) (drop (zero_size other) other)

unfoldable pub are_similar : List ℕ → List ℕ → Bool
are_similar one other =
    if is_sequence one && is_sequence other then after_zeros (drop 2 one) (drop 2 other) else are_alike one other

-- a text that begins with a sequence has it at its end
unfoldable pub moved : List ℕ → List ℕ → List ℕ
moved text front =
    if nat_lt (length front) (length text) && begins text front then drop (length front) text ++ front else text

-- the parameter 10 of a sequence, which chooses the first font: with the `;` before it
unfoldable pub font_of : List ℕ → Option Part
font_of text =
    let place = 2 + zero_size (drop 2 text) in
    let size = zero_size (drop (place + 1) text) in
    if not (is_sequence text && slice_index text (length text - 1) == byte_of "m") then None
    else (if not (slice_index text place == byte_of "1" && nat_lt 0 size) then None
    else (if slice_index text (place - 1) == ascii.semicolon then Some (part (place - 1) (size + 2)) else Some (part place (size + 1))))

-- ---- the string

-- the end of all attributes without what ends the alternate character set, given the end as it is
abbrev pub without_part : Option Part → Option Part → Option Part → (off end : List ℕ) → List ℕ
without_part (Some p) font same off end = without off p
without_part None (Some p) same off end = without off p
without_part None None (Some p) off end = without end p
without_part None None None off end = off

-- the string `sgr0`, given what `sgr` writes with the alternate character set on and off
unfoldable pub trimmed : (ending on off begin_set end_set : List ℕ) → List ℕ
trimmed ending on off begin_set end_set =
    let with = moved on begin_set in
    let plain = moved off end_set in
    let end = moved ending end_set in
    if are_similar plain end && not (are_similar plain with)
    then without_part (part_of plain end_set) (font_of plain) (same_of end plain) plain end
    else ending

-- ---- what `sgr` writes

-- its parameters: none of the attributes is on, or the alternate character set
abbrev pub parameters_of : Bool → List FormatArgument
parameters_of set = replicate 8 (number (pos 0)) ++ (number (if set then pos 1 else pos 0) ∷ [])

-- what `sgr` writes, if it is a format that writes anything
abbrev pub Writes : List ℕ → Bool → Option (List ℕ) → Type 0
Writes format set (Some output) = (after : List ℤ) × Expands format (parameters_of set) no_variables output after
Writes format set None = (place : ℕ) × (IsStuck format place ⊎ Overflows format (parameters_of set) no_variables place)

-- ---- `me`

-- a string, or an empty one
abbrev pub text_or_empty : Option (List ℕ) → List ℕ
text_or_empty (Some text) = text
text_or_empty None = []

-- the sequences of the alternate character set, if it is kept
abbrev pub set_text : Contents → Bool → List ℕ → List ℕ
set_text table sets code = if sets then text_or_empty (text_said table code) else []

-- `me`, given what `sgr` writes
abbrev pub plain_text : Contents → Bool → List ℕ → Option (List ℕ) → Option (List ℕ) → List ℕ
plain_text table sets ending (Some on) (Some off) = trimmed ending on off (set_text table sets (codes "as")) (set_text table sets (codes "ae"))
plain_text table sets ending _ _ = ending

-- the `me` of an entry that has `sgr0`, given its `sgr`
abbrev pub IsPlainOf : Contents → Bool → List ℕ → Option (List ℕ) → List ℕ → Type 0
IsPlainOf table sets ending None result = result ≡ ending
IsPlainOf table sets ending (Some format) result =
    (on : Option (List ℕ)) × (off : Option (List ℕ)) × Writes format true on × Writes format false off × (result ≡ plain_text table sets ending on off)

-- the `me` of an entry, given its `sgr0`
abbrev pub IsPlainFor : Contents → Bool → Option (List ℕ) → Option (List ℕ) → Type 0
IsPlainFor table sets None None = Unit {0}
IsPlainFor table sets None (Some result) = ⊥
IsPlainFor table sets (Some ending) None = ⊥
IsPlainFor table sets (Some ending) (Some result) = IsPlainOf table sets ending (text_said table (codes "sa")) result

-- the `me` of an entry
abbrev pub IsPlain : Contents → Bool → Option (List ℕ) → Type 0
IsPlain table sets result = IsPlainFor table sets (text_said table (codes "me")) result
