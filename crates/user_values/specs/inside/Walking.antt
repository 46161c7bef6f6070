-- What is known between the tables of two blocks.
use Rattle.std.specs.Prelude.{ℕ, ◌≡◌, ◌<◌, ◌≤◌, ◌⊎◌, suc, List, length, map, Option, Some, slice_get}
use Rattle.base_components.specs.Graph.{Rows, HasEdge}
use Rattle.base_components.specs.Components.{AreComponents, IsClosingOrder}
use Rattle.ti_source.specs.declared.parsing.Rule.{Rule}
use Rattle.user_items.specs.declared.reading.UserItems.{UserItems}
use Rattle.user_items.specs.Parsing.{user_reading_of_text}
use Rattle.user_items.specs.Reading.{user_reading_of}
use Rattle.user_values.specs.Tables.{TableSeen, HasUserTableBy}
use Rattle.user_values.specs.Uses.{uses_of}

-- a place was noted at each block that the edges of a row lead to, and no other was
pub record NotesUses (row : List (Option ℕ)) (place : ℕ) (old new : List ℕ) : Type 0 where
  pub as_many : length new ≡ length old
  pub noted : (k to : ℕ) → slice_get row k ≡ Some (Some to) → slice_get new to ≡ Some place
  pub others : (to l : ℕ) → slice_get new to ≡ Some l → (slice_get old to ≡ Some l) ⊎ (l ≡ place)

-- no block is used after the place of the order that is noted for it
pub record AreLast (graph : Rows) (order last : List ℕ) : Type 0 where
  pub as_many : length last ≡ length graph
  pub past : (j from to l : ℕ) → slice_get order j ≡ Some from → HasEdge graph from to → slice_get last to ≡ Some l → j ≤ l

-- tables were dropped, but none of a block that is used after so many have been made
pub record DropsUnused (last : List ℕ) (made : ℕ) (old new : List (Option TableSeen)) : Type 0 where
  pub as_many : length new ≡ length old
  pub kept : (at l : ℕ) → slice_get last at ≡ Some l → made ≤ l → slice_get new at ≡ slice_get old at

-- the tables of blocks that are still to be used are there
pub record AreKept (rule : Rule) (texts : List (List ℕ)) (order last : List ℕ) (tables : List (Option TableSeen)) (made : ℕ) : Type 0 where
  pub as_many : length tables ≡ length texts
  pub done : (j node l : ℕ) (text : List ℕ) (table : Option TableSeen) → j < made → slice_get order j ≡ Some node → slice_get last node ≡ Some l → made ≤ l
      → slice_get texts node ≡ Some text → slice_get tables node ≡ Some table → HasUserTableBy rule texts text table

-- the table that was made last is there, if its block is not to be used
abbrev pub IsLatest : Rule → List (List ℕ) → List ℕ → List ℕ → Option TableSeen → ℕ → Type 0
IsLatest rule texts order last latest made =
    (before node l : ℕ) (text : List ℕ) → made ≡ suc before → slice_get order before ≡ Some node → slice_get last node ≡ Some l → l < made
    → slice_get texts node ≡ Some text → HasUserTableBy rule texts text latest

-- so many tables are made of those of a source
pub record AreUnderWay (rule : Rule) (texts : List (List ℕ)) (reads : List UserItems) (uses : Rows) (component_of order last : List ℕ)
    (tables : List (Option TableSeen)) (latest : Option TableSeen) (made : ℕ) : Type 0 where
  pub read : map user_reading_of reads ≡ map user_reading_of_text texts
  pub graph : uses ≡ uses_of texts
  pub components : AreComponents (uses_of texts) component_of
  pub closing : IsClosingOrder (uses_of texts) component_of order
  pub are_last : AreLast (uses_of texts) order last
  pub are_kept : AreKept rule texts order last tables made
  pub is_latest : IsLatest rule texts order last latest made
