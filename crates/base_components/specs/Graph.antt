-- Directed graphs: a row for each node, with the number of the node that each of its edges leads
-- to, or nothing if an edge leads nowhere.
use Rattle.std.specs.Prelude.{ℕ, ◌≡◌, ◌<◌, ◌≤◌, ◌-◌, ◌++◌, List, [], ◌∷◌, length, take, drop, Option, Some, slice_get}

-- a graph, by its rows
abbrev pub Rows : Type 0
Rows = List (List (Option ℕ))

-- an edge leads from one node to the other
pub record HasEdge (graph : Rows) (from to : ℕ) : Type 0 where
  pub row : List (Option ℕ)
  pub place : ℕ
  pub stands : slice_get graph from ≡ Some row
  pub leads : slice_get row place ≡ Some (Some to)

-- each edge leads to a node of the graph, or nowhere
abbrev pub IsGraph : Rows → Type 0
IsGraph graph = (from to : ℕ) → HasEdge graph from to → to < length graph

-- one more edge is in the last row
abbrev pub AddsEdge : Rows → Rows → Option ℕ → Type 0
AddsEdge old new target = (before : Rows) (row : List (Option ℕ)) → old ≡ before ++ row ∷ [] → new ≡ before ++ (row ++ target ∷ []) ∷ []

-- the edges from `start` to where the next row starts
abbrev pub row_from : List (Option ℕ) → ℕ → List ℕ → List (Option ℕ)
row_from targets start [] = drop start targets
row_from targets start (next ∷ _) = take (next - start) (drop start targets)

-- the rows that start at these places of a list of edges
abbrev pub rows_of : List (Option ℕ) → List ℕ → Rows
rows_of targets [] = []
rows_of targets (start ∷ starts) = row_from targets start starts ∷ rows_of targets starts

-- each row starts where the one before it ends
abbrev pub AreStarts : List (Option ℕ) → List ℕ → Type 0
AreStarts targets [] = Unit {0}
AreStarts targets (start ∷ []) = start ≤ length targets
AreStarts targets (start ∷ (next ∷ starts)) = (start ≤ next) × AreStarts targets (next ∷ starts)
