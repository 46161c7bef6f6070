-- Walks through a graph, joined end to end.
use Rattle.std.proofs.Common.{ℕ, List, [], ◌∷◌, ◌++◌, refl}
use Rattle.base_components.specs.Graph.{Rows, HasEdge}
use Rattle.base_components.specs.Leading.{IsWay, Leads}

pub leads_here : (g : Rows) (u : ℕ) → Leads g u u
leads_here g u = ([], refl)

pub leads_edge : (g : Rows) (u w : ℕ) → HasEdge g u w → Leads g u w
leads_edge g u w e = (w ∷ [], (e, refl))

IsWay-append : (g : Rows) (u v w : ℕ) (xs ys : List ℕ) → IsWay g u xs v → IsWay g v ys w → IsWay g u (xs ++ ys) w
IsWay-append g u v w [] ys a b = let P : ℕ → Type 0 = λ x. IsWay g x ys w in rw a b
IsWay-append g u v w (x ∷ xs) ys a b = (a.0, IsWay-append g x v w xs ys a.1 b)

pub leads_on : (g : Rows) (u v w : ℕ) → Leads g u v → Leads g v w → Leads g u w
leads_on g u v w a b = (a.0 ++ b.0, IsWay-append g u v w a.0 b.0 a.1 b.1)
