-- Places in a text as the Language Server Protocol 3.17 counts them ("Position"): lines from 0 and
-- columns in UTF-16 units. A line ends with LF or CR LF; that a lone CR ends none is own.
use Rattle.std.specs.Prelude.{ℕ, suc, zero, ◌≡◌, ◌+◌, ◌-◌, ◌≤◌, ◌==◌, ◌&&◌, ◌||◌, not, nat_lt, Bool, true, false, List, [], ◌∷◌, drop, length, if◌then◌else◌}
use Rattle.ti_text.specs.Ascii as ascii
use Rattle.source_types.specs.declared.places.Position.{Position}

-- the UTF-16 units of the character that begins with a byte of UTF-8; none for a byte within a
-- character
abbrev pub units : ℕ → ℕ
units byte = if nat_lt byte 128 then 1 else if nat_lt byte 192 then 0 else if nat_lt byte 240 then 1 else 2

-- the text begins with a newline
abbrev pub begins_with_newline : List ℕ → Bool
begins_with_newline [] = false
begins_with_newline (byte ∷ bytes) = byte == ascii.newline

-- a line ends where the text begins: with LF, with CR LF, or with the text
abbrev pub ends_line : List ℕ → Bool
ends_line [] = true
ends_line (byte ∷ bytes) = byte == ascii.newline || (byte == ascii.carriage_return && begins_with_newline bytes)

-- how many newlines are still to be passed after the byte
abbrev pub lines_left : ℕ → ℕ → ℕ
lines_left left byte = if byte == ascii.newline then left - 1 else left

-- the offset at which the line of that number begins, or that of the end if there is none
abbrev pub line_start : List ℕ → ℕ → ℕ
line_start [] line = 0
line_start (byte ∷ bytes) line = if line == 0 then 0 else suc (line_start bytes (lines_left line byte))

-- the offset of a column in a line that begins the text: the first at which a character of it has
-- not passed, or its end
abbrev pub column_offset : List ℕ → ℕ → ℕ
column_offset [] column = 0
column_offset (byte ∷ bytes) column =
    if nat_lt column (units byte) || ends_line (byte ∷ bytes) then 0 else suc (column_offset bytes (column - units byte))

-- the offset of a place
abbrev pub offset_of : List ℕ → Position → ℕ
offset_of text place = line_start text place.line + column_offset (drop (line_start text place.line) text) place.column

-- the place after the first byte of the text, from the place before it
abbrev pub step_over : List ℕ → Position → Position
step_over [] place = place
step_over (byte ∷ bytes) place =
    if byte == ascii.newline then record { line = place.line + 1; column = 0 }
    else if ends_line (byte ∷ bytes) then place
    else record { line = place.line; column = place.column + units byte }

-- the place of an offset, if the text begins at that place
abbrev pub place_after : Position → List ℕ → ℕ → Position
place_after place [] offset = place
place_after place (byte ∷ bytes) zero = place
place_after place (byte ∷ bytes) (suc offset) = place_after (step_over (byte ∷ bytes) place) bytes offset

-- the place of an offset
abbrev pub position_of : List ℕ → ℕ → Position
position_of text offset = place_after (record { line = 0; column = 0 }) text offset

-- an offset is the start of a character: none within one, nor the LF of a CR LF; `before` is the
-- byte before the text
abbrev pub is_start : ℕ → List ℕ → ℕ → Bool
is_start before [] offset = true
is_start before (byte ∷ bytes) zero = nat_lt 0 (units byte) && not (before == ascii.carriage_return && byte == ascii.newline)
is_start before (byte ∷ bytes) (suc offset) = is_start byte bytes offset

-- the place of the start of a character is a place of that offset alone
abbrev pub PositionsAreInverse : Type 0
PositionsAreInverse =
    (text : List ℕ) (offset : ℕ) → offset ≤ length text → is_start 0 text offset ≡ true
    → offset_of text (position_of text offset) ≡ offset
