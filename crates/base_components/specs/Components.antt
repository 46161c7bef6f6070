-- Strongly connected components, by a number for each node, and an order of the nodes in which
-- components close.
use Rattle.std.specs.Prelude.{ℕ, ◌≡◌, ◌<◌, ◌≤◌, ◌⊎◌, ◌↔◌, List, length, Some, slice_get}
use Rattle.ti_text.specs.Lists.{Has, AreBelow, AreDistinct}
use Rattle.base_components.specs.Graph.{Rows, HasEdge}
use Rattle.base_components.specs.Leading.{Leads}

-- the node has a number, which is that of exactly those nodes that it leads to and that lead to it;
-- along an edge no number rises
pub record AreComponents (graph : Rows) (component_of : List ℕ) : Type 0 where
  pub as_many : length component_of ≡ length graph
  pub same : (u w c d : ℕ) → slice_get component_of u ≡ Some c → slice_get component_of w ≡ Some d → (c ≡ d) ↔ (Leads graph u w × Leads graph w u)
  pub falls : (u w c d : ℕ) → slice_get component_of u ≡ Some c → slice_get component_of w ≡ Some d → HasEdge graph u w → d ≤ c

-- each node is in the order once, and before it each node that an edge leads to from it, but for
-- those of its own component; a component's number is the place of its first node
pub record IsClosingOrder (graph : Rows) (component_of order : List ℕ) : Type 0 where
  pub listed : (u : ℕ) → u < length graph → Has order u
  pub nodes : AreBelow order (length graph)
  pub once : AreDistinct order
  pub before : (i j u w c d : ℕ) → slice_get order i ≡ Some u → slice_get order j ≡ Some w → slice_get component_of u ≡ Some c
      → slice_get component_of w ≡ Some d → HasEdge graph u w → (c ≡ d) ⊎ (j < i)
  pub starts : (i u c : ℕ) → slice_get order i ≡ Some u → slice_get component_of u ≡ Some c → c ≤ i
  pub first : (u c : ℕ) → slice_get component_of u ≡ Some c → (v : ℕ) × (slice_get order c ≡ Some v) × (slice_get component_of v ≡ Some c)
