-- Where the blocks of a document are, and where in one a place is (own; Language Server Protocol
-- 3.17, "Position").
use Rattle.std.specs.Prelude.{ℕ, suc, ◌+◌, ◌-◌, nat_lt, List, [], ◌∷◌, Option, Some, None, if◌then◌else◌}
use Rattle.ti_text.specs.Lines.{line_count}
use Rattle.base_meaning.specs.Report.{lines_before}
use Rattle.tools_sources.specs.Sources.{first_line}
use Rattle.source_spans.specs.declared.parts.Part.{Part}
use Rattle.source_types.specs.declared.places.Position.{Position}
use Rattle.source_types.specs.declared.places.Range.{Range}
use Rattle.source_document.specs.Documents.{held}
use Rattle.source_places.specs.Position.{offset_of, position_of}
use Rattle.source_blocks.specs.declared.spots.Spot.{Spot}

-- the line on which the first block begins, from 0
abbrev pub head_line : List ℕ → ℕ
head_line text = first_line text - 1

-- the line on which the block at that position begins
abbrev pub block_line : List ℕ → ℕ → ℕ
block_line text at = head_line text + lines_before (held text) at

-- the place of an offset of a block that begins on that line
abbrev pub place_in : ℕ → List ℕ → ℕ → Position
place_in line block offset = record { line = line + (position_of block offset).line; column = (position_of block offset).column }

-- the part of a text that is a part of a block which begins on that line
abbrev pub range_in : ℕ → List ℕ → Part → Range
range_in line block part = record { start = place_in line block part.start; end = place_in line block part.end }

-- the offset of a place in a block that begins on that line
abbrev pub offset_in : ℕ → List ℕ → Position → ℕ
offset_in line block place = offset_of block (record { line = place.line - line; column = place.column })

-- where in these blocks a place is, if it is in one; the first of them is at position `at`, and
-- begins on the line `first`
abbrev pub spot_from : (at first : ℕ) → Position → List (List ℕ) → Option Spot
spot_from at first place [] = None
spot_from at first place (block ∷ blocks) =
    if nat_lt place.line first then None
    else if nat_lt place.line (first + line_count block) then Some (record { at = at; line = first; offset = offset_in first block place })
    else spot_from (suc at) (first + line_count block) place blocks

-- a place as it is taken: past the end of a line it is the line's end, past the last line that of
-- the text
abbrev pub settled : List ℕ → Position → Position
settled text place = position_of text (offset_of text place)

-- where in the blocks of a text a place is
abbrev pub spot_at : List ℕ → Position → Option Spot
spot_at text place = spot_from 0 (head_line text) (settled text place) (held text)
