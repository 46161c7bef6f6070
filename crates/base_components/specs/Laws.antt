-- Laws of components and their numbers.
use Rattle.std.specs.Prelude.{ℕ, ◌≡◌, ◌≤◌, ◌↔◌, List, Some, slice_get}
use Rattle.base_components.specs.Graph.{Rows, HasEdge, IsGraph}
use Rattle.base_components.specs.Leading.{Leads}
use Rattle.base_components.specs.Components.{AreComponents}

-- the ends of an edge have one number exactly if it is on a cycle: its end leads back
abbrev pub CyclesShareANumber : Type 0
CyclesShareANumber =
    (graph : Rows) (component_of : List ℕ) (u w c d : ℕ) → AreComponents graph component_of
    → slice_get component_of u ≡ Some c → slice_get component_of w ≡ Some d → HasEdge graph u w → (c ≡ d) ↔ Leads graph w u

-- along a walk no number rises
abbrev pub NumbersFall : Type 0
NumbersFall =
    (graph : Rows) (component_of : List ℕ) (u w c d : ℕ) → IsGraph graph → AreComponents graph component_of
    → slice_get component_of u ≡ Some c → slice_get component_of w ≡ Some d → Leads graph u w → d ≤ c

-- however the components are numbered, the same nodes share a number
abbrev pub ComponentsAreDetermined : Type 0
ComponentsAreDetermined =
    (graph : Rows) (one other : List ℕ) (u w c d e f : ℕ) → AreComponents graph one → AreComponents graph other
    → slice_get one u ≡ Some c → slice_get one w ≡ Some d → slice_get other u ≡ Some e → slice_get other w ≡ Some f → (c ≡ d) ↔ (e ≡ f)

-- walks can be joined: what a node leads to leads on
abbrev pub WalksJoin : Type 0
WalksJoin = (graph : Rows) (u v w : ℕ) → Leads graph u v → Leads graph v w → Leads graph u w
