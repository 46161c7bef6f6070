-- What an editor offers against a hint (own; Language Server Protocol 3.17, "Code Action Request"): a
-- comma that is missing (N4, N5).
use Rattle.std.specs.Prelude.{ℕ, suc, ◌-◌, ◌==◌, ◌&&◌, not, nat_le, nat_lt, Bool, List, [], ◌∷◌, Option, None, Some, option_and_then, if◌then◌else◌}
use Rattle.std.specs.List.{flat_map}
use Rattle.std.specs.Option.{option_map_or}
use Rattle.ti_text.specs.Ascii as ascii
use Rattle.ti_text.specs.WhiteSpace.{is_white_space}
use Rattle.ti_source.specs.Folding.{PlacedByte}
use Rattle.source_spans.specs.Folding.{folded_of}
use Rattle.source_spans.specs.Replacing.{exchanged}
use Rattle.source_spans.specs.declared.parts.Part.{Part}
use Rattle.source_types.specs.declared.places.Position.{Position}
use Rattle.source_types.specs.declared.places.Range.{Range}
use Rattle.source_block_hints.specs.Blocks.{block_hints}
use Rattle.source_block_hints.specs.declared.hint.Hint.{Hint}
use Rattle.source_block_hints.specs.declared.hint.HintKind.{HintKind}
use Rattle.source_block_hints.specs.declared.hint.HintKind.TheVariants.{ItemsInHead, MissingComma}
use Rattle.source_document.specs.Diagnostics.{text_at}
use Rattle.source_document.specs.Documents.{held}
use Rattle.source_keeping.specs.Keeping.{stays_in_line}
use Rattle.source_blocks.specs.Places.{can_be_exchanged}
use Rattle.source_blocks.specs.Spots.{range_in, spot_at}
use Rattle.source_blocks.specs.declared.spots.Spot.{Spot}
use Rattle.source_fixes.specs.Fixes.{stretch_to}
use Rattle.source_fixes.specs.Parting.{is_parted, texts_of}
use Rattle.source_fixes.specs.declared.fixes.Stretch.{Stretch}
use Rattle.source_fixes.specs.declared.hint_fixes.HintFix.{HintFix}

-- ---- where a comma is put

-- whether a byte is before an offset, and no white space
abbrev pub is_seen_before : ℕ → PlacedByte → Bool
is_seen_before offset x = nat_lt x.1 offset && not (is_white_space x.0)

-- the last such byte of a folded text and the offset after it; what was found before, if there is
-- none
abbrev pub last_before : Option PlacedByte → ℕ → List PlacedByte → Option PlacedByte
last_before found offset [] = found
last_before found offset (x ∷ xs) = last_before (if is_seen_before offset x then Some (x.0, suc x.1) else found) offset xs

-- what takes the place of no byte at an offset
abbrev pub empty_at : ℕ → Part
empty_at offset = record { start = offset; end = offset }

-- the part of a block whose place a comma takes, if this is the last byte before the item that a hint
-- quotes and the offset after that byte: no byte of the block, or the bar before an item in the head
abbrev pub comma_part : HintKind → PlacedByte → Option Part
comma_part MissingComma x = Some (empty_at x.1)
comma_part ItemsInHead x = Some (if x.0 == ascii.bar then record { start = x.1 - 1; end = x.1 } else empty_at x.1)
comma_part _ x = None

-- the same of a hint on a block with this folded text
abbrev pub hint_part : List PlacedByte → Hint → Option Part
hint_part text hint = option_and_then (comma_part hint.kind) (last_before None hint.detail_start text)

-- ---- whether it is offered

-- whether an editor can put a comma in the place of a part of a block, and the edit is within a line
-- of items and after something that is seen on that line
abbrev pub can_be_put : List ℕ → Part → Bool
can_be_put block part =
    can_be_exchanged block part
    && (nat_le part.start part.end && (stays_in_line block part.start part.end (ascii.comma ∷ []) && stays_in_line block part.start part.start []))

-- whether a comma in the place of a part of a block makes one of its texts two, and leaves the others
-- as they are
abbrev pub parts_text : List ℕ → Part → Bool
parts_text block part = is_parted (texts_of block) (texts_of (exchanged block part (ascii.comma ∷ [])))

-- whether a comma is offered there
abbrev pub is_offered : List ℕ → Part → Bool
is_offered block part = can_be_put block part && parts_text block part

-- it, in a block that begins on that line, if it is offered there against a hint of this kind
abbrev pub comma_at : ℕ → List ℕ → HintKind → Option Part → List HintFix
comma_at line block kind None = []
comma_at line block kind (Some part) = if is_offered block part then record { kind = kind; range = range_in line block part } ∷ [] else []

-- what is offered against a hint on a block that begins on that line
abbrev pub against_hint : ℕ → List ℕ → Hint → List HintFix
against_hint line block hint = comma_at line block hint.kind (hint_part (folded_of block) hint)

-- ---- a document

-- whether a stretch touches what a hint is on
abbrev pub touches_hint : Stretch → Hint → Bool
touches_hint stretch hint = nat_le hint.start stretch.end && nat_le stretch.start hint.end

-- what is offered against a hint, if the stretch touches what it is on
abbrev pub if_touched : ℕ → List ℕ → Stretch → Hint → List HintFix
if_touched line block stretch hint = if touches_hint stretch hint then against_hint line block hint else []

-- what is offered against the hints on a block that begins on that line
abbrev pub hint_fixes_in : ℕ → List ℕ → Stretch → List HintFix
hint_fixes_in line block stretch = flat_map (if_touched line block stretch) (block_hints block)

-- what is offered from a place in a block on to another place
abbrev pub hint_fixes_from : List (List ℕ) → Position → Spot → List HintFix
hint_fixes_from blocks end spot =
    hint_fixes_in spot.line (text_at blocks spot.at) (stretch_to (text_at blocks spot.at) end spot)

-- what is offered against the hints on what a range touches, of the block in which it begins
abbrev pub hint_fixes_of : List ℕ → Range → List HintFix
hint_fixes_of text range = option_map_or (hint_fixes_from (held text) range.end) (spot_at text range.start) []
