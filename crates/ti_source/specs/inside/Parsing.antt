-- How the items of a block are judged, computed, and what the parts of its reader do (own).
use Rattle.ti_text.specs.Ascii as ascii
use Rattle.std.specs.Prelude.{◌≡◌, ℕ, List, [], ◌++◌, map, Option, Some, None}
use Rattle.ti_source.specs.declared.items.Escape.TheVariants as escape
use Rattle.ti_source.specs.declared.parsing.Rule.TheVariants.{Leftmost}
use Rattle.ti_source.specs.Folding.{PlacedByte}
use Rattle.ti_source.specs.inside.Folding.{folding_of}
use Rattle.ti_source.specs.Items.{Statement, ItemPiece, bytes, piece_of}
use Rattle.ti_source.specs.inside.Items.{field_of, items_of}
use Rattle.ti_source.specs.Stating.{statement_of}
use Rattle.ti_source.specs.Reading.{ReadItem, ReadFault, Reading}
use Rattle.ti_source.specs.Judging.{Judged, items_at, faults_at, items_from, faults_from, names_found, header_faults}
use Rattle.ti_source.specs.inside.Header.{header_names}
use Rattle.ti_source.specs.inside.Verdicts.{verdict_of}

-- what comes of an item on this line that states this
abbrev pub judged_as : ℕ → Option Statement → Option Judged
judged_as line None = None
judged_as line (Some s) = Some (record { line = line; name = s.name; verdict = verdict_of s.name s.claim })

-- what comes of an item, computed
abbrev pub judged_of : List PlacedByte → Option Judged
judged_of item = judged_as (piece_of item).line (statement_of (piece_of item).text)

-- the names field of a block
abbrev pub block_field : List ℕ → List ℕ
block_field block = bytes (field_of (folding_of block))

-- the names and the fault of a names field were read, and no items
pub record ReadsField (field : List ℕ) (reading : Reading) : Type 0 where
  pub rule : reading.rule ≡ Leftmost
  pub is_field : reading.field ≡ field
  pub names : reading.names ≡ names_found (header_names field)
  pub items : reading.items ≡ []
  pub faults : reading.faults ≡ header_faults field (header_names field)

-- these items and faults were added to a reading
pub record AddsToReading (found : List ReadItem) (faults : List ReadFault) (old new : Reading) : Type 0 where
  pub same_rule : new.rule ≡ old.rule
  pub same_field : new.field ≡ old.field
  pub same_names : new.names ≡ old.names
  pub more_items : new.items ≡ old.items ++ found
  pub more_faults : new.faults ≡ old.faults ++ faults

-- what an item with this place says, and its faults, were added to a reading
abbrev pub AddsItem : ℕ → ItemPiece → Reading → Reading → Type 0
AddsItem ordinal p old new =
    AddsToReading (items_at ordinal (judged_as p.line (statement_of p.text))) (faults_at ordinal (judged_as p.line (statement_of p.text))) old new

-- what the items of a text say, and their faults, were added to a reading
abbrev pub AddsItems : List PlacedByte → Reading → Reading → Type 0
AddsItems source old new =
    let judged = map judged_of (items_of escape.Nothing ascii.comma source) in
    AddsToReading (items_from 0 judged) (faults_from 0 judged) old new
