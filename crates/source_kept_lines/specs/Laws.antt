-- A repaired source is read as before, with its comments and blank lines in their places and its lines
-- within the width, and stays as it is when it is repaired again (own).
use Rattle.ti_text.specs.Ascii as ascii
use Rattle.std.specs.Prelude.{◌≡◌, ◌≤◌, ◌⊎◌, ℕ, true, List, [], ◌∷◌}
use Rattle.std.specs.List.{AllByRecursion}
use Rattle.ti_source.specs.Cutting.{blocks_from_head}
use Rattle.ti_source.specs.Items.{without_white_front}
use Rattle.source_format.specs.Laws.{IsReadAlike}
use Rattle.source_format.specs.Layout.{columns}
use Rattle.source_format.specs.Pieces.{is_kept, lines_of}
use Rattle.source_kept_lines.specs.Layout.{after_line, repaired_text}
use Rattle.source_kept_lines.specs.Parts.{parts}
use Rattle.source_kept_lines.specs.declared.parts.Reached.{Reached}
use Rattle.source_kept_lines.specs.declared.parts.Reached.TheVariants as reached

-- a repaired source is read as it was
abbrev pub RepairingKeepsReading : Type 0
RepairingKeepsReading = (width : ℕ) (source : List ℕ) → IsReadAlike source (repaired_text width source)

-- ---- its lines are within the width

-- a line is within the width, or is a comment or blank, or has one part, so that it is not broken
abbrev pub FitsLine : ℕ → Reached → List ℕ → Type 0
FitsLine width r line = (columns line ≤ width) ⊎ ((is_kept line ≡ true) ⊎ (parts r (without_white_front line) ≡ without_white_front line ∷ []))

-- so is each of these lines
abbrev pub FitsFrom : ℕ → Reached → List (List ℕ) → Type 0
FitsFrom width r [] = Unit {0}
FitsFrom width r (line ∷ lines) = FitsLine width r line × FitsFrom width (after_line r line) lines

-- each line of a block is so
abbrev pub FitsWidth : ℕ → List ℕ → Type 0
FitsWidth width block = FitsFrom width reached.Names (lines_of block)

-- each line of the blocks of a text is so
abbrev pub LinesFit : ℕ → List ℕ → Type 0
LinesFit width text = AllByRecursion (FitsWidth width) (blocks_from_head ascii.newline text)

-- the lines of a repaired source fit
abbrev pub RepairedLinesFit : Type 0
RepairedLinesFit = (width : ℕ) (source : List ℕ) → LinesFit width (repaired_text width source)

-- ---- it stays as it is

-- repairing a source a second time changes nothing
abbrev pub RepairingIsSettled : Type 0
RepairingIsSettled = (width : ℕ) (source : List ℕ) → repaired_text width (repaired_text width source) ≡ repaired_text width source
