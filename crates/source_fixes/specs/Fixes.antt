-- What an editor offers against the faults of a document's items (own; Language Server Protocol
-- 3.17, "Code Action Request").
use Rattle.std.specs.Prelude.{ℕ, ◌==◌, ◌&&◌, not, nat_le, is_none, is_some, Bool, false, List, [], ◌++◌, filter, flat_map, map, Option, None, Some}
use Rattle.std.specs.Prelude.{option_and_then, option_map, if◌then◌else◌}
use Rattle.std.specs.List.{enumerate_from, find}
use Rattle.std.specs.Option.{option_map_or}
use Rattle.std.specs.String.{string_bytes}
use Rattle.ti_source.specs.Code.{is_of_header}
use Rattle.ti_source.specs.Folding.{PlacedByte}
use Rattle.ti_source.specs.Items.{bytes}
use Rattle.ti_source.specs.Parsing.{reading_of_text}
use Rattle.ti_source.specs.Reading.{Reading, ReadFault, ReadItem, Said, said_text}
use Rattle.ti_source.specs.declared.code.Code.{Code}
use Rattle.user_items.specs.Laws.{is_local_warning}
use Rattle.source_descriptions.specs.UserDescriptions.{user_described}
use Rattle.base_meaning.specs.OwnNames.{own_names}
use Rattle.base_meaning.specs.Owner.{owner, readings}
use Rattle.source_spans.specs.Folding.{folded_of}
use Rattle.source_spans.specs.Parts.{spanned}
use Rattle.source_spans.specs.Subjects.{items_of, used_name}
use Rattle.source_spans.specs.declared.parts.Part.{Part}
use Rattle.source_types.specs.declared.places.Position.{Position}
use Rattle.source_types.specs.declared.places.Range.{Range}
use Rattle.source_document.specs.Diagnostics.{text_at}
use Rattle.source_diagnostics.specs.declared.capabilities.Capabilities.{Capabilities}
use Rattle.source_diagnostics.specs.declared.capabilities.Capabilities.TheVariants.{Profile, UserDefined}
use Rattle.source_document.specs.Documents.{held}
use Rattle.source_keeping.specs.Keeping.{stays_in_line}
use Rattle.source_blocks.specs.Giving.{can_be_given}
use Rattle.source_blocks.specs.Places.{can_be_exchanged}
use Rattle.source_blocks.specs.Spots.{offset_in, range_in, spot_at}
use Rattle.source_blocks.specs.declared.spots.Spot.{Spot}
use Rattle.source_edits.specs.Edits.{AdviceSeen, EditSeen, advice_seen, edits_for, renames}
use Rattle.source_edits.specs.Narrowing.{narrowed}
use Rattle.source_fixes.specs.UserNames.{user_renames, user_renames_by}
use Rattle.source_fixes.specs.declared.fixes.Fix.{Fix}
use Rattle.source_fixes.specs.declared.fixes.Stretch.{Stretch}

-- a fix as plain data: what is advised, the part of the text that is exchanged, and its new text
pub record FixSeen : Type 0 where
  pub advice : AdviceSeen
  pub range : Range
  pub text : List ℕ

-- a fix that holds its texts in memory, as plain data
abbrev pub fix_seen : Fix → FixSeen
fix_seen fix = record { advice = advice_seen fix.advice; range = fix.range; text = string_bytes fix.text }

-- ---- the reading of an item, by its place among the items of its block

-- the first fault of that place that is not of the names field
abbrev pub fault_of_item : ℕ → List ReadFault → Option ReadFault
fault_of_item ordinal faults = find (λ (fault : ReadFault). fault.ordinal == ordinal && not (is_of_header fault.code)) faults

-- its fault, if it has one
abbrev pub code_at : ℕ → List ReadFault → Option Code
code_at ordinal faults = option_map (λ (fault : ReadFault). fault.code) (fault_of_item ordinal faults)

-- whether what a fault is about is the name of a user-defined capability that is known
abbrev pub is_of_known_name : Option (List ℕ) → Bool
is_of_known_name None = false
is_of_known_name (Some name) = is_some (user_described name)

-- whether nothing is offered against a fault in a source with these capabilities: it is the warning
-- of a user-defined name that is known. One that is not known is most likely misspelled (N8).
abbrev pub is_allowed : Capabilities → ReadFault → Bool
is_allowed Profile fault = false
is_allowed UserDefined fault = is_local_warning fault && is_of_known_name fault.detail

-- its code, if something is
abbrev pub code_unless : Capabilities → ReadFault → Option Code
code_unless capabilities fault = if is_allowed capabilities fault then None else Some fault.code

-- the fault of the item against which something is offered in a source with these capabilities, if
-- it has one
abbrev pub code_by : Capabilities → ℕ → List ReadFault → Option Code
code_by capabilities ordinal faults = option_and_then (code_unless capabilities) (fault_of_item ordinal faults)

-- the string that an item says, if it says one
abbrev pub text_said : Said → Option (List ℕ)
text_said (said_text c value) = Some value
text_said _ = None

-- the string that it says, if it is accepted and says one
abbrev pub value_at : ℕ → List ReadItem → Option (List ℕ)
value_at ordinal items = option_and_then (λ (item : ReadItem). text_said item.said) (find (λ (item : ReadItem). item.ordinal == ordinal) items)

-- ---- a use of a name that no block has

-- the names that a block owns, which is after its position, unless that is `own`
abbrev pub others_in : List (List ℕ) → ℕ → (ℕ × List ℕ) → List (List ℕ)
others_in blocks own placed = if placed.0 == own then [] else own_names (readings blocks) placed.0 (reading_of_text placed.1).names

-- the lookup names of all blocks but the one at that position, which would use itself
abbrev pub other_names : List (List ℕ) → ℕ → List (List ℕ)
other_names blocks own = flat_map (others_in blocks own) (enumerate_from 0 blocks)

-- those of them that a source can give
abbrev pub given_names : List (List ℕ) → ℕ → List (List ℕ)
given_names blocks own = filter can_be_given (other_names blocks own)

-- the nearest of these names in place of one that the block at that position uses, if no block has
-- it
abbrev pub used_edits : List (List ℕ) → ℕ → Option (List PlacedByte) → List EditSeen
used_edits blocks at None = []
used_edits blocks at (Some name) = if is_none (owner (readings blocks) (bytes name)) then renames name (given_names blocks at) else []

-- ---- the items of a block

-- what is offered for an item of that place in the block at that position, which is read as this,
-- whatever the capabilities
abbrev pub item_edits : List (List ℕ) → (at ordinal : ℕ) → Reading → List PlacedByte → List EditSeen
item_edits blocks at ordinal block item =
    edits_for item (code_at ordinal block.faults) (value_at ordinal block.items) ++ (used_edits blocks at (used_name item) ++ user_renames item)

-- the same in a source with these capabilities
abbrev pub item_edits_by : Capabilities → List (List ℕ) → (at ordinal : ℕ) → Reading → List PlacedByte → List EditSeen
item_edits_by capabilities blocks at ordinal block item =
    edits_for item (code_by capabilities ordinal block.faults) (value_at ordinal block.items)
    ++ (used_edits blocks at (used_name item) ++ user_renames_by capabilities item)

-- whether a stretch touches an item of its block: an offset just after the last byte of an item is
-- on it
abbrev pub touches : Stretch → List PlacedByte → Bool
touches stretch item = option_map_or (λ (span : Part). nat_le span.start stretch.end && nat_le stretch.start span.end) (spanned item) false

-- what is offered for an item, which is after its place, if the stretch touches it
abbrev pub touched_edits : Capabilities → List (List ℕ) → Stretch → Reading → (ℕ × List PlacedByte) → List EditSeen
touched_edits capabilities blocks stretch block placed =
    if touches stretch placed.1 then item_edits_by capabilities blocks stretch.at placed.0 block placed.1 else []

-- what is offered for those of these items that the stretch touches, in their order
abbrev pub edits_of : Capabilities → List (List ℕ) → Stretch → Reading → List (List PlacedByte) → List EditSeen
edits_of capabilities blocks stretch block items = flat_map (touched_edits capabilities blocks stretch block) (enumerate_from 0 items)

-- the same of the items of its block
abbrev pub edits_in : Capabilities → List (List ℕ) → Stretch → List EditSeen
edits_in capabilities blocks stretch =
    edits_of capabilities blocks stretch (reading_of_text (text_at blocks stretch.at)) (items_of (folded_of (text_at blocks stretch.at)))

-- ---- a document

-- whether an editor can make an edit of a block, and the edit is within a line of items, so that it
-- leaves comments and blank lines as they are
abbrev pub can_be_made : List ℕ → EditSeen → Bool
can_be_made block edit =
    can_be_exchanged block edit.part && (nat_le edit.part.start edit.part.end && stays_in_line block edit.part.start edit.part.end edit.text)

-- an edit of a block that begins on that line, as a fix of the text
abbrev pub fix_of : ℕ → List ℕ → EditSeen → FixSeen
fix_of line block edit = record { advice = edit.advice; range = range_in line block edit.part; text = edit.text }

-- edits of a block that begins on that line as fixes of the text, without the bytes that they leave
-- as they are: those that an editor can make, and that are within a line of items
abbrev pub fixes_in : ℕ → List ℕ → List EditSeen → List FixSeen
fixes_in line block edits = map (fix_of line block) (filter (can_be_made block) (map (narrowed (folded_of block)) edits))

-- the stretch of a block from a place in it to another place, or to the block's end if that is
-- after it
abbrev pub stretch_to : List ℕ → Position → Spot → Stretch
stretch_to block end spot = record { at = spot.at; start = spot.offset; end = offset_in spot.line block end }

-- what is offered from a place in a block on to another place
abbrev pub fixes_from : Capabilities → List (List ℕ) → Position → Spot → List FixSeen
fixes_from capabilities blocks end spot =
    fixes_in spot.line (text_at blocks spot.at) (edits_in capabilities blocks (stretch_to (text_at blocks spot.at) end spot))

-- what is offered for the items that a range touches, of the block in which it begins, in a source
-- with these capabilities
abbrev pub fixes_of : Capabilities → List ℕ → Range → List FixSeen
fixes_of capabilities text range = option_map_or (fixes_from capabilities (held text) range.end) (spot_at text range.start) []
