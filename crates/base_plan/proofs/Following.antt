-- The blocks of a graph settled one after another along its closing order.
use Rattle.std.proofs.Common.{◌≡◌, ℕ, ◌+◌, ◌<◌, ◌≤◌, inl, inr, List, length, set, Some, slice_get, sym, ◌∙◌, ap, subst, arith}
use Rattle.std.proofs.lemmas.Bool.{cases_eq}
use Rattle.std.proofs.lemmas.List.{length-set}
use Rattle.std.proofs.lemmas.Option.{same_Some, slice_get_within, slice_get-get_or}
use Rattle.ti_source.specs.Reading.{Reading}
use Rattle.base_components.specs.Components.{AreComponents, IsClosingOrder}
use Rattle.ti_text.proofs.Lists.{item_at, get-set_same, get-set_other}
use Rattle.base_slots.specs.declared.slots.Slots.{Slots}
use Rattle.base_slots.specs.declared.slots.Settled.{Settled}
use Rattle.base_slots.specs.Slots.{blocks_of}
use Rattle.base_slots.specs.Settled.{IsSettled}
use Rattle.base_dependents.specs.declared.dependents.Dependents.{Dependents}
use Rattle.base_plan.specs.inside.Settling.{AreFoundIn, AreAllSettled, IsSettledNode, CanBeSettled, HasSettledOwners, node_position}

-- those before one place of the order are settled
pub record IsFollowing (slots : Slots) (d : Dependents) (order : List ℕ) (settled : List Settled) (end : ℕ) : Type 0 where
  pub as_many : length settled ≡ length d.ids.items
  pub done : (j node : ℕ) → j < end → slice_get order j ≡ Some node → IsSettledNode slots d settled node

pub following_begun : (slots : Slots) (d : Dependents) (order : List ℕ) (settled : List Settled) → length settled ≡ length d.ids.items
    → IsFollowing slots d order settled 0
following_begun slots d order settled n = record { as_many = n; done = λ j node l. absurd (omega arith) }

-- one more was settled
pub following_more : (slots : Slots) (d : Dependents) (order : List ℕ) (settled : List Settled) (end node : ℕ) (one : Settled)
    → IsFollowing slots d order settled end → slice_get order end ≡ Some node → node < length settled
    → ((at : ℕ) (block : Reading) → slice_get d.positions.items node ≡ Some at → slice_get (blocks_of slots) at ≡ Some block
    → IsSettled (blocks_of slots) at block one)
    → IsFollowing slots d order (set settled node one) (end + 1)
following_more slots d order settled end node one h o l right = record {
  as_many = length-set settled node one ∙ h.as_many;
  done = λ j other m e at block two s p b. elim (cases_eq other node) [
    | inl same ↦
        let here : slice_get (set settled node one) other ≡ Some one = rw same (stands settled node one l) in
        subst (λ x. IsSettled (blocks_of slots) at block x) (same_Some one two (sym here ∙ s)) (right at block (rw (← same) p) b)
    | inr apart ↦
        let before : j < end = earlier order end node j other o e apart m in
        h.done j other before e at block two (sym (get-set_other settled node other one apart) ∙ s) p b
  ];
} where
  stands : (settled : List Settled) (node : ℕ) (one : Settled) → node < length settled → slice_get (set settled node one) node ≡ Some one
  stands settled node one l = let w = item_at settled node l in get-set_same settled node w.0 one w.1

  earlier : (order : List ℕ) (end node j other : ℕ) → slice_get order end ≡ Some node → slice_get order j ≡ Some other → (other ≡ node → ⊥) → j < end + 1
      → j < end
  earlier order end node j other o e apart m =
      elim (cases_eq j end) [
        | inl same ↦ absurd (apart (same_Some other node (sym e ∙ (ap (slice_get order) same ∙ o))))
        | inr other_place ↦ omega arith
      ]

-- all are settled at the end of the order
pub following_ended : (slots : Slots) (d : Dependents) (component_of order : List ℕ) (settled : List Settled) (end : ℕ) → AreFoundIn slots d
    → IsClosingOrder d.uses component_of order → length order ≤ end → IsFollowing slots d order settled end → AreAllSettled slots d settled
following_ended slots d component_of order settled end found c past h = record {
  as_many = h.as_many;
  right = λ node at block one s.
      (let here : node < length d.uses = omega (arith, slice_get_within settled node one s, h.as_many, found.graph.as_many) in
      let w = c.listed node here in
      let within = slice_get_within order w.0 node w.1 in
      h.done w.0 node (omega arith) w.1 at block one s);
}

-- the owners of the next block are of its component or settled
pub next_owners : (slots : Slots) (d : Dependents) (component_of order : List ℕ) (settled : List Settled) (end node : ℕ) → AreFoundIn slots d
    → AreComponents d.uses component_of → IsClosingOrder d.uses component_of order → IsFollowing slots d order settled end → slice_get order end ≡ Some node
    → HasSettledOwners slots d component_of settled node
next_owners slots d component_of order settled end node found comps c h o = λ owner edge.
    let j = c.listed owner (found.whole node owner edge) in
    let first = item_at component_of node (omega (arith, c.nodes end node o, comps.as_many)) in
    let second = item_at component_of owner (omega (arith, found.whole node owner edge, comps.as_many)) in
    elim (c.before end j.0 node owner first.0 second.0 o j.1 first.1 second.1 edge) [
      | inl same ↦ inl (first.0, first.1, second.1 ∙ ap (λ k. Some k) (sym same))
      | inr before ↦ inr (h.done j.0 owner before j.1)
    ]

pub place_stands : (slots : Slots) (d : Dependents) (component_of order : List ℕ) (end node : ℕ) → AreFoundIn slots d
    → IsClosingOrder d.uses component_of order → slice_get order end ≡ Some node → slice_get d.positions.items node ≡ Some (node_position d node)
place_stands slots d component_of order end node found c o =
    slice_get-get_or d.positions.items node 0 (let l = c.nodes end node o in omega (arith, found.graph.as_many, found.as_many))

pub next_can : (slots : Slots) (d : Dependents) (component_of order : List ℕ) (settled : List Settled) (end node : ℕ) → AreFoundIn slots d
    → AreComponents d.uses component_of → IsClosingOrder d.uses component_of order → IsFollowing slots d order settled end → slice_get order end ≡ Some node
    → CanBeSettled slots d component_of settled node (node_position d node)
next_can slots d component_of order settled end node found comps c h o = record {
  known = record { found = found; components = comps; as_many = h.as_many };
  stands = place_stands slots d component_of order end node found c o;
  owners = next_owners slots d component_of order settled end node found comps c h o;
}

-- what is right for the node's position is right for each position that it has
pub right_at : (slots : Slots) (d : Dependents) (node place : ℕ) (one : Settled) → slice_get d.positions.items node ≡ Some place
    → ((block : Reading) → slice_get (blocks_of slots) place ≡ Some block → IsSettled (blocks_of slots) place block one)
    → (at : ℕ) (block : Reading) → slice_get d.positions.items node ≡ Some at → slice_get (blocks_of slots) at ≡ Some block
    → IsSettled (blocks_of slots) at block one
right_at slots d node place one p h at block q s =
    let same : place ≡ at = same_Some place at (sym p ∙ q) in
    subst (λ x. IsSettled (blocks_of slots) x block one) same (h block (rw same s))
