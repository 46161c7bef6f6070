-- Where the names of a document lead (own; Language Server Protocol 3.17, "Goto Definition Request"
-- and "Find References Request").
use Rattle.std.specs.Prelude.{ℕ, suc, ◌+◌, ◌==◌, List, [], ◌∷◌, ◌++◌, Bool, filter, map, Option, option_and_then, option_map, if◌then◌else◌}
use Rattle.std.specs.Option.{option_map_or}
use Rattle.std.specs.Str.{bytes_eq}
use Rattle.ti_text.specs.Lines.{line_count}
use Rattle.base_meaning.specs.Owner.{is_owner, owner, readings}
use Rattle.source_spans.specs.Subjects.{SubjectSeen, TouchedSeen, UseSeen, head_span, own_name, own_spans, subject_at, used, uses_of}
use Rattle.source_spans.specs.declared.parts.Part.{Part}
use Rattle.source_types.specs.declared.places.Position.{Position}
use Rattle.source_types.specs.declared.places.Range.{Range}
use Rattle.source_document.specs.Diagnostics.{text_at}
use Rattle.source_document.specs.Documents.{held}
use Rattle.source_blocks.specs.Spots.{block_line, head_line, range_in, spot_at}
use Rattle.source_blocks.specs.declared.spots.Spot.{Spot}

-- the name that a subject is or uses
abbrev pub name_of : SubjectSeen → List ℕ
name_of (own_name name) = name
name_of (used name) = name

-- what a place in a block is on
abbrev pub touched_in : List (List ℕ) → Spot → Option TouchedSeen
touched_in blocks spot = subject_at (text_at blocks spot.at) spot.offset

-- what a place of a text is on
abbrev pub touched_at : List ℕ → Position → Option TouchedSeen
touched_at text place = option_and_then (touched_in (held text)) (spot_at text place)

-- the block that owns the name of what is touched
abbrev pub owner_of : List (List ℕ) → TouchedSeen → Option ℕ
owner_of blocks touched = owner (readings blocks) (name_of touched.subject)

-- the block that owns the name that a place of a text is on
abbrev pub owner_at : List ℕ → Position → Option ℕ
owner_at text place = option_and_then (owner_of (held text)) (touched_at text place)

-- ---- definitions

-- the names field of the block at that position
abbrev pub head_range : List ℕ → ℕ → Range
head_range text at = range_in (block_line text at) (text_at (held text) at) (head_span (text_at (held text) at))

-- the names field of the block that owns the name that a place is on
abbrev pub definition_of : List ℕ → Position → Option Range
definition_of text place = option_map (head_range text) (owner_at text place)

-- ---- references

-- what is sought in blocks: the uses of the names that the block at that position owns, or a name,
-- in the head of the block at that position and in uses
pub data Sought : Type 0 where
  uses_of_owner : ℕ → Sought
  one_name : ℕ → List ℕ → Sought

-- whether a use of that name is sought
abbrev pub is_sought : List (List ℕ) → Sought → List ℕ → Bool
is_sought blocks (uses_of_owner owner) name = is_owner (readings blocks) name owner
is_sought blocks (one_name owner wanted) name = bytes_eq name wanted

-- the parts of the head of a block at that position that are sought
abbrev pub head_parts : Sought → ℕ → List ℕ → List Part
head_parts (uses_of_owner owner) at block = []
head_parts (one_name owner name) at block = if owner == at then own_spans name block else []

-- the uses in a block that are sought
abbrev pub used_parts : List (List ℕ) → Sought → List ℕ → List Part
used_parts blocks sought block = map (λ (found : UseSeen). found.span) (filter (λ (found : UseSeen). is_sought blocks sought found.name) (uses_of block))

-- what is sought in a block at that position
abbrev pub parts_in : List (List ℕ) → Sought → ℕ → List ℕ → List Part
parts_in blocks sought at block = head_parts sought at block ++ used_parts blocks sought block

-- what is sought in a block at that position that begins on that line
abbrev pub ranges_in : List (List ℕ) → Sought → (at line : ℕ) → List ℕ → List Range
ranges_in blocks sought at line block = map (range_in line block) (parts_in blocks sought at block)

-- what is sought in blocks, of which the first is at that position and begins on that line
abbrev pub ranges_from : List (List ℕ) → Sought → (at line : ℕ) → List (List ℕ) → List Range
ranges_from blocks sought at line [] = []
ranges_from blocks sought at line (block ∷ rest) =
    ranges_in blocks sought at line block ++ ranges_from blocks sought (suc at) (line + line_count block) rest

-- what is sought in all blocks of a text, in the order of the text
abbrev pub ranges_of : List ℕ → Sought → List Range
ranges_of text sought = ranges_from (held text) sought 0 (head_line text) (held text)

-- the names field of the block at that position, if it is asked for
abbrev pub declaration : List ℕ → Bool → ℕ → List Range
declaration text declared at = if declared then head_range text at ∷ [] else []

-- the uses of the names that the block at that position owns, after its names field if that is
-- asked for
abbrev pub references_to : List ℕ → Bool → ℕ → List Range
references_to text declared at = declaration text declared at ++ ranges_of text (uses_of_owner at)

-- the uses of the names that the owner of the name has that a place is on
abbrev pub references_of : List ℕ → Position → Bool → List Range
references_of text place declared = option_map_or (references_to text declared) (owner_at text place) []
