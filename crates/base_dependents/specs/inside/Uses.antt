-- What the steps that make the positions and the graph of the blocks found have made so far (own).
use Rattle.std.specs.Prelude.{ℕ, ◌≡◌, ◌++◌, ◌∷◌, [], List, length, nat_eq, Option, Some, slice_get}
use Rattle.std.specs.List.{IsDistinct}
use Rattle.ti_text.specs.Lists.{AreDistinct}
use Rattle.ti_source.specs.Reading.{ReadItem}
use Rattle.base_components.specs.Graph.{Rows}
use Rattle.base_slots.specs.declared.slots.Slots.{Slots}
use Rattle.base_slots.specs.Slots.{reading_at}
use Rattle.base_slots.specs.Positions.{ArePositions}
use Rattle.base_dependents.specs.Dependents.{IsEdgeRowOf}

-- these are the ids found and their positions; none was found twice, and none is twice in the list
pub record ArePlaced (listed found ids positions : List ℕ) : Type 0 where
  pub ids_found : ids ≡ found
  pub are_positions : ArePositions listed found positions
  pub found_once : IsDistinct nat_eq found
  pub listed_once : AreDistinct listed

-- a row for the items is after the others
pub record AddsRow (slots : Slots) (ids : List ℕ) (items : List ReadItem) (old new : Rows) : Type 0 where
  pub row : List (Option ℕ)
  pub of_items : IsEdgeRowOf slots ids items row
  pub behind : new ≡ old ++ row ∷ []

-- a row for each of the blocks `done`, with edges to the positions among the ids
pub record AreRowsOf (slots : Slots) (ids done : List ℕ) (graph : Rows) : Type 0 where
  pub as_many : length graph ≡ length done
  pub rows : (i id : ℕ) (row : List (Option ℕ)) → slice_get done i ≡ Some id → slice_get graph i ≡ Some row
      → IsEdgeRowOf slots ids (reading_at slots id).items row
