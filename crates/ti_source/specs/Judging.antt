-- How the names field and each item of a block are judged, and the reading that this makes
-- (terminfo(5); X/Open Curses Issue 7, "Terminfo Source Format").
use Rattle.std.specs.Prelude.{ℕ, ◌+◌, nat_lt, if◌then◌else◌, List, [], ◌∷◌, ◌++◌, length, Option, Some, None}
use Rattle.ti_text.specs.Limits.{names_max}
use Rattle.ti_source.specs.declared.code.Code.TheVariants as code
use Rattle.ti_source.specs.declared.parsing.Rule.TheVariants.{Leftmost}
use Rattle.ti_source.specs.Folding.{PlacedByte}
use Rattle.ti_source.specs.Items.{Statement, States, piece_of}
use Rattle.ti_source.specs.Reading.{ReadItem, ReadFault, Reading}
use Rattle.ti_source.specs.Verdicts.{Verdict, Judges, items_by, faults_by, header_fault}

-- ---- the items of a block, each by itself and with its place among them

-- an item that states something: its line, the name as it is written, and the verdict on it
pub record Judged : Type 0 where
  pub line : ℕ
  pub name : List ℕ
  pub verdict : Verdict

-- what comes of an item: nothing, if it states nothing
pub data IsJudged : (item : List PlacedByte) → Option Judged → Type 0 where
  item_ignored : (item : List PlacedByte) → States (piece_of item).text None → IsJudged item None
  item_judged : (item : List PlacedByte) (s : Statement) (v : Verdict) → States (piece_of item).text (Some s) → Judges s.name s.claim v
      → IsJudged item (Some (record { line = (piece_of item).line; name = s.name; verdict = v }))

-- what comes of each of the items in a row
pub data AreJudged : (items : List (List PlacedByte)) → List (Option Judged) → Type 0 where
  no_item : AreJudged [] []
  item_and_rest : {item : List PlacedByte} {items : List (List PlacedByte)} {outcome : Option Judged} {outcomes : List (Option Judged)}
      → IsJudged item outcome → AreJudged items outcomes → AreJudged (item ∷ items) (outcome ∷ outcomes)

-- what is accepted of the item that is at a place
abbrev pub items_at : ℕ → Option Judged → List ReadItem
items_at ordinal None = []
items_at ordinal (Some j) = items_by ordinal j.line j.verdict

-- the fault of the item that is at a place
abbrev pub faults_at : ℕ → Option Judged → List ReadFault
faults_at ordinal None = []
faults_at ordinal (Some j) = faults_by ordinal j.line j.name j.verdict

-- the accepted items among items in a row, of which the first has the place `ordinal`
abbrev pub items_from : ℕ → List (Option Judged) → List ReadItem
items_from ordinal [] = []
items_from ordinal (j ∷ js) = items_at ordinal j ++ items_from (ordinal + 1) js

-- the faults of items in a row, of which the first has the place `ordinal`
abbrev pub faults_from : ℕ → List (Option Judged) → List ReadFault
faults_from ordinal [] = []
faults_from ordinal (j ∷ js) = faults_at ordinal j ++ faults_from (ordinal + 1) js

-- ---- the names field

-- the lookup names of a names field, none if it is bad
abbrev pub names_found : Option (List (List ℕ)) → List (List ℕ)
names_found None = []
names_found (Some names) = names

-- the fault of a names field, given its lookup names: it is bad, or over the limit
abbrev pub header_faults : List ℕ → Option (List (List ℕ)) → List ReadFault
header_faults field None = header_fault code.BadHeader ∷ []
header_faults field (Some names) = if nat_lt names_max (length field) then header_fault code.NamesTooLong ∷ [] else []

-- the reading of a names field with these lookup names and of items with these verdicts: the fault
-- of the field comes before those of items
abbrev pub reading_by : List ℕ → Option (List (List ℕ)) → List (Option Judged) → Reading
reading_by field names judged = record {
  rule = Leftmost;
  field = field;
  names = names_found names;
  items = items_from 0 judged;
  faults = header_faults field names ++ faults_from 0 judged;
}
