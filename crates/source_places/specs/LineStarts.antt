-- Where a line begins, by the newlines before it (own).
use Rattle.std.specs.Prelude.{ℕ, ◌≡◌, ◌<◌, ◌≤◌, List, length, take}
use Rattle.ti_text.specs.Lines.{line_count}
use Rattle.source_places.specs.Position.{line_start}

-- the offset at which the line of that number begins: the first with so many newlines before it
pub record IsLineStart (text : List ℕ) (line offset : ℕ) : Type 0 where
  pub number : line_count (take offset text) ≡ line
  pub first : (earlier : ℕ) → earlier < offset → line_count (take earlier text) < line

-- the offset that is computed for a line of the text is where it begins
abbrev pub LinesAreFound : Type 0
LinesAreFound = (text : List ℕ) (line : ℕ) → line ≤ line_count text → IsLineStart text line (line_start text line)

-- for a line that the text does not have it is the end of the text
abbrev pub OtherLinesAreTheEnd : Type 0
OtherLinesAreTheEnd = (text : List ℕ) (line : ℕ) → line_count text < line → line_start text line ≡ length text

-- a line begins at one offset
abbrev pub LinesHaveOneStart : Type 0
LinesHaveOneStart = (text : List ℕ) (line one other : ℕ) → IsLineStart text line one → IsLineStart text line other → one ≡ other
