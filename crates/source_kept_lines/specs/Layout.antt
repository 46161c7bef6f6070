-- The layout that keeps the lines of a source (own): the lines on which items begin have the white
-- space in front that the first of them has, a space is between two items, none is after the last comma
-- of a line, and a line is broken only before an item that would bring it past the width.
use Rattle.ti_text.specs.Ascii as ascii
use Rattle.ti_text.specs.WhiteSpace.{is_white_space}
use Rattle.std.specs.Prelude.{ℕ, ◌+◌, nat_le, if◌then◌else◌, List, [], ◌∷◌, ◌++◌, flat_map}
use Rattle.ti_source.specs.Cutting.{blocks_from_head, front_of}
use Rattle.ti_source.specs.Items.{without_white_front}
use Rattle.source_format.specs.Layout.{columns}
use Rattle.source_format.specs.Pieces.{is_kept, lines_of}
use Rattle.source_kept_lines.specs.Parts.{after, is_between, parts}
use Rattle.source_kept_lines.specs.declared.parts.Reached.{Reached}
use Rattle.source_kept_lines.specs.declared.parts.Reached.TheVariants as reached

-- the white space that a line begins with
abbrev pub white_front : List ℕ → List ℕ
white_front [] = []
white_front (x ∷ xs) = if is_white_space x then x ∷ white_front xs else []

-- the white space of the first of these lines that begins with an item, comments and blank lines left
-- out; a tab if there is none
abbrev pub indent_from : Reached → List (List ℕ) → List ℕ
indent_from r [] = ascii.tab ∷ []
indent_from r (line ∷ lines) =
    if is_kept line then indent_from r lines
    else if is_between r then white_front line
    else indent_from (after r (without_white_front line)) lines

-- what a line has in front: one that begins with an item has what the first such line has
abbrev pub lead : List ℕ → Reached → List ℕ → List ℕ
lead indent r line = if is_between r then indent else white_front line

-- the parts of a line after its first one, where so many of its columns are taken: each after a space,
-- or, if it would bring the line past the width, on a new line
abbrev pub filled : (width : ℕ) (indent : List ℕ) (column : ℕ) → List (List ℕ) → List ℕ
filled width indent column [] = []
filled width indent column (part ∷ ps) =
    if nat_le (column + 1 + columns part) width
    then ascii.space ∷ part ++ filled width indent (column + 1 + columns part) ps
    else ascii.newline ∷ indent ++ part ++ filled width indent (columns indent + columns part) ps

-- parts after what their line has in front
abbrev pub parts_text : (width : ℕ) (indent front : List ℕ) → List (List ℕ) → List ℕ
parts_text width indent front [] = front
parts_text width indent front (part ∷ ps) = front ++ part ++ filled width indent (columns front + columns part) ps

-- a line that is no comment and not blank, as it is written
abbrev pub line_text : (width : ℕ) (indent : List ℕ) → Reached → List ℕ → List ℕ
line_text width indent r line = parts_text width indent (lead indent r line) (parts r (without_white_front line))

-- a line as it is written: comments and blank lines stay
abbrev pub any_text : (width : ℕ) (indent : List ℕ) → Reached → List ℕ → List ℕ
any_text width indent r line = if is_kept line then line else line_text width indent r line

-- what is reached by a line
abbrev pub after_line : Reached → List ℕ → Reached
after_line r line = if is_kept line then r else after r (without_white_front line)

-- lines as they are written
abbrev pub lines_text : (width : ℕ) (indent : List ℕ) → Reached → List (List ℕ) → List ℕ
lines_text width indent r [] = []
lines_text width indent r (line ∷ lines) = any_text width indent r line ++ ascii.newline ∷ lines_text width indent (after_line r line) lines

-- a block as it is written
abbrev pub repaired_block : ℕ → List ℕ → List ℕ
repaired_block width block = lines_text width (indent_from reached.Names (lines_of block)) reached.Names (lines_of block)

-- a source as it is written: what is before its first block stays
abbrev pub repaired_text : ℕ → List ℕ → List ℕ
repaired_text width source = front_of ascii.newline source ++ flat_map (repaired_block width) (blocks_from_head ascii.newline source)
