-- The edit that lays out the blocks of a part of a document (own; Language Server Protocol 3.17,
-- "Document Range Formatting Request").
use Rattle.std.specs.Prelude.{ℕ, ◌≡◌, ◌+◌, ◌-◌, ◌&&◌, nat_eq, nat_le, nat_lt, List, [], ◌∷◌, ◌++◌, Option, None, Some, option_map}
use Rattle.std.specs.Prelude.{drop, if◌then◌else◌, max, take}
use Rattle.std.specs.Str.{bytes_eq}
use Rattle.ti_text.specs.Lines.{line_count}
use Rattle.source_types.specs.declared.places.Range.{Range}
use Rattle.source_format.specs.Sources.{formatted_source}
use Rattle.source_places.specs.Position.{offset_of}
use Rattle.source_document.specs.Documents.{held}
use Rattle.source_edits.specs.Shown.{utf8_of}
use Rattle.source_blocks.specs.Spots.{head_line}
use Rattle.source_features.specs.Formatting.{LayoutSeen, client_laid}
use Rattle.source_features.specs.declared.range_formatting.Lines.{Lines}

-- lines that follow one another, as plain data: the first, and the one after the last
abbrev pub lines_seen : Lines → ℕ × ℕ
lines_seen lines = (lines.first, lines.end)

-- from the first of some lines to the last of those that follow
abbrev pub joined : Option (ℕ × ℕ) → Option (ℕ × ℕ) → Option (ℕ × ℕ)
joined None later = later
joined (Some found) None = Some found
joined (Some found) (Some later) = Some (found.0, later.1)

-- the lines of a block, if it has one from `first` to `last`
abbrev pub touched_block : (first last line end : ℕ) → Option (ℕ × ℕ)
touched_block first last line end = if nat_le line last && nat_lt first end then Some (line, end) else None

-- the lines of the blocks that have one from `first` to `last`; the first block begins on the line
-- `line`
abbrev pub touched : (first last line : ℕ) → List (List ℕ) → Option (ℕ × ℕ)
touched first last line [] = None
touched first last line (block ∷ blocks) =
    joined (touched_block first last line (line + line_count block)) (touched first last (line + line_count block) blocks)

-- the last line of a range, to which the line does not belong that it ends before
abbrev pub last_line : Range → ℕ
last_line range = if nat_eq range.end.column 0 && nat_lt range.start.line range.end.line then range.end.line - 1 else range.end.line

-- the range of whole lines
abbrev pub range_of : ℕ × ℕ → Range
range_of lines = record { start = record { line = lines.0; column = 0 }; end = record { line = lines.1; column = 0 } }

-- the part of a text in a range
abbrev pub piece_of : List ℕ → Range → List ℕ
piece_of text range =
    take (max (offset_of text range.start) (offset_of text range.end) - offset_of text range.start) (drop (offset_of text range.start) text)

-- the edit that gives a part of a text another text: none if it is the same, or not UTF-8
abbrev pub part_edit : Range → List ℕ → List ℕ → Option LayoutSeen
part_edit range piece laid =
    if bytes_eq laid piece then None else option_map (λ text. record { range = range; text = text }) (utf8_of laid)

-- the edit that gives a part of a text the layout of lines of 80 columns
abbrev pub layout_of_part : List ℕ → Range → Option LayoutSeen
layout_of_part text range = part_edit range (piece_of text range) (formatted_source 80 (piece_of text range))

-- the same of some lines, if there are some
abbrev pub layout_of_lines : List ℕ → Option (ℕ × ℕ) → Option LayoutSeen
layout_of_lines text None = None
layout_of_lines text (Some lines) = layout_of_part text (range_of lines)

-- the edit that lays out the blocks of a text that a range touches
abbrev pub layout_in : List ℕ → Range → Option LayoutSeen
layout_in text range = layout_of_lines text (touched range.start.line (last_line range) (head_line text) (held text))

-- a text is what is before a part of it, the part, and what is after it; once the client has made the
-- edit, the part has the layout, and what is before and after it is as it was
pub record IsLaidPart (text : List ℕ) (edit : LayoutSeen) : Type 0 where
  pub front : List ℕ
  pub back : List ℕ
  pub before : text ≡ front ++ piece_of text edit.range ++ back
  pub after : client_laid text edit ≡ front ++ formatted_source 80 (piece_of text edit.range) ++ back

-- each edit that lays out a part of a text does so
abbrev pub EditsLayOutAPart : Type 0
EditsLayOutAPart = (text : List ℕ) (range : Range) (edit : LayoutSeen) → layout_in text range ≡ Some edit → IsLaidPart text edit
