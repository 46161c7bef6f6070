-- Where the row of a node is among all edges (own).
use Rattle.std.specs.Prelude.{ℕ, ◌≡◌, ◌≤◌, ◌-◌, List, length, take, drop, Option, Some, slice_get}
use Rattle.base_components.specs.Graph.{rows_of}

-- the row of node `node` is what is from `start` to `end` among all edges
pub record IsRow (targets : List (Option ℕ)) (starts : List ℕ) (node start end : ℕ) : Type 0 where
  pub climbs : start ≤ end
  pub within : end ≤ length targets
  pub row : slice_get (rows_of targets starts) node ≡ Some (take (end - start) (drop start targets))
