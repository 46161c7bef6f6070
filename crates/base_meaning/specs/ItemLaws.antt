-- Laws on the faults of a block's items, and on the names that a block has.
use Rattle.std.specs.Prelude.{ℕ, ◌≡◌, ◌<◌, ◌↔◌, List, ◌++◌, map, filter, Some, is_some, slice_get, Bool, false, ◌&&◌, nat_eq, IsTrue, IsFalse}
use Rattle.std.specs.List.{list_any, flat_map}
use Rattle.ti_source.specs.Reading.{Reading, ReadItem, ReadFault}
use Rattle.ti_source.specs.Parsing.{reading_of_text}
use Rattle.base_meaning.specs.Owner.{is_among}
use Rattle.base_meaning.specs.Reaching.{used_name}
use Rattle.base_meaning.specs.Faults.{SourceFault, local_fault, is_kept, distinct, fault_of_item}
use Rattle.base_meaning.specs.Laws.{numbered_faults, Climbs}

-- ---- the faults of one item

-- whether one of the faults is of the item with that ordinal
abbrev pub has_fault : ℕ → List ReadFault → Bool
has_fault ordinal faults = list_any (λ (fault : ReadFault). nat_eq fault.ordinal ordinal) faults

-- whether an item with that ordinal uses a name
abbrev pub has_use : ℕ → List ReadItem → Bool
has_use ordinal items = list_any (λ (item : ReadItem). nat_eq item.ordinal ordinal && is_some (used_name item.said)) items

-- an item with a fault by itself uses no name
abbrev pub AreApart : List ReadFault → List ReadItem → Type 0
AreApart faults items = (ordinal : ℕ) → IsTrue (has_fault ordinal faults) → IsFalse (has_use ordinal items)

-- the faults with that ordinal, of faults each with the ordinal of its item
abbrev pub with_ordinal : ℕ → List (ℕ × SourceFault) → List SourceFault
with_ordinal ordinal faults = map (λ (f : ℕ × SourceFault). f.1) (filter (λ (f : ℕ × SourceFault). nat_eq f.0 ordinal) faults)

-- the faults that reading gave for the item with that ordinal
abbrev pub own_faults : ℕ → ℕ → List ReadFault → List SourceFault
own_faults at ordinal faults = map (local_fault at) (filter (λ (f : ReadFault). nat_eq f.ordinal ordinal) faults)

-- the fault of the use that the item with that ordinal is, if it is one and has one
abbrev pub use_faults : List Reading → ℕ → ℕ → List ReadItem → List SourceFault
use_faults blocks at ordinal items =
    flat_map (λ (item : ReadItem). fault_of_item blocks at item.line (used_name item.said)) (filter (λ (item : ReadItem). nat_eq item.ordinal ordinal) items)

-- the faults of an ordinal are those that reading gave, then that of the use, and no others
abbrev pub ItemFaultsGoByOrdinal : Type 0
ItemFaultsGoByOrdinal =
    (blocks : List Reading) (at : ℕ) (faults : List ReadFault) (items : List ReadItem) → AreApart faults items
    → (ordinal : ℕ) → with_ordinal ordinal (numbered_faults blocks at faults items) ≡ own_faults at ordinal faults ++ use_faults blocks at ordinal items

-- what these laws ask of faults and items
pub record AreOrdered (faults : List ReadFault) (items : List ReadItem) : Type 0 where
  pub faults_climb : Climbs 0 (map (λ (f : ReadFault). f.ordinal) faults)
  pub items_climb : Climbs 0 (map (λ (i : ReadItem). i.ordinal) items)
  pub apart : AreApart faults items

-- the items of each block, and the faults that reading gave for them, meet what these laws ask
abbrev pub ReadItemsAreOrdered : Type 0
ReadItemsAreOrdered = (text : List ℕ) → AreOrdered (filter (is_kept false) (reading_of_text text).faults) (reading_of_text text).items

-- ---- each name once

-- the name is at that position, and not before
pub record IsFirstPlace (names : List (List ℕ)) (name : List ℕ) (at : ℕ) : Type 0 where
  pub stands : slice_get names at ≡ Some name
  pub first : (before : ℕ) → before < at → slice_get names before ≡ Some name → ⊥

-- each of the names once, in the order of their first places
pub record IsDistinctOf (names each : List (List ℕ)) : Type 0 where
  pub members : (name : List ℕ) → IsTrue (is_among name each) ↔ IsTrue (is_among name names)
  pub places : (i : ℕ) (name : List ℕ) → slice_get each i ≡ Some name → (at : ℕ) × IsFirstPlace names name at
  pub order : (i j : ℕ) (name other : List ℕ) (at behind : ℕ) → i < j → slice_get each i ≡ Some name → slice_get each j ≡ Some other
      → IsFirstPlace names name at → IsFirstPlace names other behind → at < behind

-- the names that duplicates are looked up for are each once, in the order of their first places
abbrev pub DistinctHasEachOnce : Type 0
DistinctHasEachOnce = (names : List (List ℕ)) → IsDistinctOf names (distinct names)
