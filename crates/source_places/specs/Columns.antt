-- What a width and a column are in UTF-16 (RFC 2781), whatever way they are counted.
use Rattle.std.specs.Char.Escape.{encode_utf16}
use Rattle.std.specs.List.{flat_map}
use Rattle.std.specs.Prelude.{ℕ, ◌≡◌, ◌+◌, ◌<◌, ◌≤◌, List, length, take}
use Rattle.std.specs.Str.{IsUtf8, chars}
use Rattle.ti_text.specs.Lines.{line_count}
use Rattle.source_places.specs.LineTexts.{line_of, until_end, width}
use Rattle.source_places.specs.Position.{column_offset, line_start, position_of}

-- the UTF-16 of a text that is UTF-8: the one or two units of each of its characters
abbrev pub utf16_of : List ℕ → List ℕ
utf16_of text = flat_map encode_utf16 (chars text)

-- the width of a text is the length of its UTF-16
abbrev pub WidthsAreUtf16 : Type 0
WidthsAreUtf16 = (text : List ℕ) → IsUtf8 text → width text ≡ length (utf16_of text)

-- the offset of a column in the line that begins the text: the last of the line before which there
-- is no more than the column
pub record IsColumnOffset (text : List ℕ) (column offset : ℕ) : Type 0 where
  pub within : offset ≤ length (until_end text)
  pub passed : width (take offset text) ≤ column
  pub last : (later : ℕ) → offset < later → later ≤ length (until_end text) → column < width (take later text)

-- the offset that is computed for a column is that of the column
abbrev pub ColumnsAreFound : Type 0
ColumnsAreFound = (text : List ℕ) (column : ℕ) → IsColumnOffset text column (column_offset text column)

-- a column has one offset
abbrev pub ColumnsHaveOneOffset : Type 0
ColumnsHaveOneOffset = (text : List ℕ) (column one other : ℕ) → IsColumnOffset text column one → IsColumnOffset text column other → one ≡ other

-- the place of an offset in a line: the number of the line, and how wide what is before the offset
-- is in it
abbrev pub PlacesAreMeasured : Type 0
PlacesAreMeasured = (text : List ℕ) (line offset : ℕ) → line ≤ line_count text → offset ≤ length (line_of text line)
    → position_of text (line_start text line + offset) ≡ record { line = line; column = width (take offset (line_of text line)) }
