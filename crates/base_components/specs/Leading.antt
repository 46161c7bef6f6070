-- Reachability in a directed graph: a node leads to each node at the end of a walk along edges, so
-- to itself too.
use Rattle.std.specs.Prelude.{ℕ, ◌≡◌, List, [], ◌∷◌}
use Rattle.base_components.specs.Graph.{Rows, HasEdge}

-- from one node a walk goes through the nodes `way` to the other
abbrev pub IsWay : Rows → ℕ → List ℕ → ℕ → Type 0
IsWay graph from [] to = from ≡ to
IsWay graph from (next ∷ way) to = HasEdge graph from next × IsWay graph next way to

-- some walk goes from one node to the other
abbrev pub Leads : Rows → ℕ → ℕ → Type 0
Leads graph from to = (way : List ℕ) × IsWay graph from way to
