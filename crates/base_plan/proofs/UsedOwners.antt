-- What is wrong with a use, found from its edge, the components and the owner's state.
use Rattle.std.proofs.Common.{◌≡◌, ℕ, ◌<◌, inl, inr, false, List, length, Option, Some, None, slice_get, slice_index_or, Contains, refl, sym, ◌∙◌, ap}
use Rattle.std.proofs.Common.{arith, subst}
use Rattle.std.proofs.lemmas.Bool.{cases_Bool}
use Rattle.std.proofs.lemmas.Option.{same_Some, none-some, slice_get_within, get_or_from_slice_get, slice_get-get_or}
use Rattle.ti_source.specs.declared.code.Code.{Code}
use Rattle.ti_source.specs.declared.code.Code.TheVariants.{Circular}
use Rattle.ti_source.specs.Reading.{Reading, reading_of}
use Rattle.ti_layout.specs.Values.{contents}
use Rattle.base_meaning.specs.Owner.{owner}
use Rattle.base_meaning.specs.Reaching.{LeadsTo, leads_to}
use Rattle.base_meaning.specs.Faults.{use_fault}
use Rattle.base_meaning.specs.UseLaws as laws
use Rattle.base_meaning.specs.UseLaws.{HaveOneNumber}
use Rattle.base_meaning.specs.ValueTables.{HasTable}
use Rattle.base_meaning.proofs.Leading.{leads_to-LeadsTo, LeadsTo-leads_to}
use Rattle.base_meaning.proofs.UseFaults.{use_fault_circular, owner_is}
use Rattle.base_meaning.proofs.UseLawProofs.{circular_component, component_circular}
use Rattle.base_components.specs.Graph.{HasEdge}
use Rattle.base_slots.specs.declared.slots.Slots.{Slots}
use Rattle.base_slots.specs.declared.slots.Slot.{Slot}
use Rattle.base_slots.specs.declared.slots.Settled.{Settled}
use Rattle.base_slots.specs.Slots.{blocks_of, slots_of, IsOwnerId, StandsAt}
use Rattle.base_slots.proofs.Owners.{block_of_slot}
use Rattle.base_slots.specs.Settled.{table_of}
use Rattle.base_dependents.specs.declared.dependents.Dependents.{Dependents}
use Rattle.base_plan.specs.inside.Settling.{IsKnown, IsUseAt, IsEdgeTo, IsOwnerState, IsSettledNode, HasSettledOwners}
use Rattle.base_plan.proofs.Places.{block_of, node_of_place, node_of_id, use_of_place, edge_is, row_at, graph_of, components_of}

-- a use among the blocks found
pub record IsFoundUse (slots : Slots) (d : Dependents) (component_of : List ℕ) (settled : List Settled) (node at index : ℕ) (name : List ℕ)
    (edge : Option ℕ) : Type 0 where
  pub known : IsKnown slots d component_of settled
  pub place : slice_get d.positions.items node ≡ Some at
  pub of_item : IsUseAt (blocks_of slots) at index name
  pub leads : IsEdgeTo slots d.ids.items name edge

module _ (slots : Slots) (d : Dependents) (component_of : List ℕ) (settled : List Settled) (node at index : ℕ) (name : List ℕ) where
  numbers : IsKnown slots d component_of settled → laws.MarksComponents (length d.positions.items) (laws.HasOptionalEdge d.uses) (HaveOneNumber component_of)
  numbers k = components_of d.uses component_of (length d.positions.items) k.components (omega (arith, k.found.as_many, k.found.graph.as_many))

  -- if the use leads back, its edge leads to a node of the same component
  back_shares : (edge : Option ℕ) → IsFoundUse slots d component_of settled node at index name edge → LeadsTo (blocks_of slots) name at → (owner : ℕ)
      × (edge ≡ Some owner) × HaveOneNumber component_of node owner
  back_shares edge u lead =
      let found = u.known.found in
      let n = node_of_place slots d found node at u.place in
      let w = circular_component (blocks_of slots) d.positions.items (laws.HasOptionalEdge d.uses) (HaveOneNumber component_of) found.closed
      (graph_of slots d found) (numbers u.known)
      node at (block_of slots n.0) name u.place n.1.block (use_of_place (blocks_of slots) at index name (block_of slots n.0) u.of_item n.1.block) lead in
      let m = node_of_place slots d found w.0 w.1 w.3 in
      (w.0, (u.leads w.0).1 (m.0, (w.1, w.2, m.1.stands), m.1.id_is), w.4)

  -- the owner was found, and is of another component
  pub off_another : (owner : ℕ) → IsFoundUse slots d component_of settled node at index name (Some owner) → (HaveOneNumber component_of node owner → ⊥)
      → leads_to (blocks_of slots) name at ≡ false
  off_another owner u apart =
      elim (cases_Bool (leads_to (blocks_of slots) name at)) [
        | inr off ↦ off
        | inl back ↦
            let w = back_shares (Some owner) u (leads_to-LeadsTo (blocks_of slots) name at back) in
            let same : w.0 ≡ owner = same_Some w.0 owner (sym w.1) in
            absurd (apart (subst (λ o. HaveOneNumber component_of node o) same w.2))
      ]

  -- the owner was not found
  pub off_outside : IsFoundUse slots d component_of settled node at index name None → leads_to (blocks_of slots) name at ≡ false
  off_outside u =
      elim (cases_Bool (leads_to (blocks_of slots) name at)) [
        | inr off ↦ off
        | inl back ↦ let w = back_shares None u (leads_to-LeadsTo (blocks_of slots) name at back) in absurd (none-some w.0 w.1)
      ]

  -- the owner was found, and is of the component of the user
  pub fault_circular : (owner : ℕ) → IsFoundUse slots d component_of settled node at index name (Some owner) → HaveOneNumber component_of node owner
      → ◌≡◌ {A = Option Code} (Some Circular) (use_fault (blocks_of slots) at name)
  fault_circular w u one =
      let found = u.known.found in
      let own = (u.leads w).0 refl in
      let m = node_of_id slots d found w own.0 own.2 in
      let same : own.1.0 ≡ m.0 = found.distinct own.1.0 m.0 own.0 own.1.2 m.1.stands in
      let owns : owner (blocks_of slots) name ≡ Some m.0 = own.1.1 ∙ ap (λ k. Some k) same in
      let lead = component_circular (blocks_of slots) d.positions.items (laws.HasOptionalEdge d.uses) (HaveOneNumber component_of) (graph_of slots d found)
      (numbers u.known)
      node at w m.0 name u.place owns m.1.at_is one in
      let b = owner_is (blocks_of slots) name m.0 owns in
      use_fault_circular (blocks_of slots) at name b.0 b.1 (LeadsTo-leads_to (blocks_of slots) name at lead)

  -- the state of an owner that was found
  pub state_inside : (owner : ℕ) (one : Settled) → IsFoundUse slots d component_of settled node at index name (Some owner)
      → (HaveOneNumber component_of node owner → ⊥) → IsSettledNode slots d settled owner → slice_get settled owner ≡ Some one
      → IsOwnerState (blocks_of slots) at name one.state
  state_inside w one u apart right s =
      let found = u.known.found in
      let own = (u.leads w).0 refl in
      let m = node_of_id slots d found w own.0 own.2 in
      let same : own.1.0 ≡ m.0 = found.distinct own.1.0 m.0 own.0 own.1.2 m.1.stands in
      let b = owner_is (blocks_of slots) name m.0 (own.1.1 ∙ ap (λ k. Some k) same) in
      record {
        block = b.0;
        is = b.1;
        off = off_another w u apart;
        table = (right m.0 b.0 one s m.1.at_is b.2).table;
      }

  -- the state of an owner that was not
  pub state_outside : (id : ℕ) (slot : Slot) → IsFoundUse slots d component_of settled node at index name None → IsOwnerId slots name id
      → ((place : ℕ) → StandsAt slots place id → slice_get (slots_of slots) place ≡ Some slot) → IsOwnerState (blocks_of slots) at name slot.settled.state
  state_outside id slot u own s =
      let found = u.known.found in
      let b = owner_is (blocks_of slots) name own.0 own.1 in
      let here = s own.0 own.2 in
      let same : reading_of slot.block ≡ b.0 = same_Some (reading_of slot.block) b.0 (sym (block_of_slot slots own.0 slot here) ∙ b.2) in
      let P : Reading → Type 0 = λ c. HasTable contents (blocks_of slots) c (table_of slot.settled.state) in
      record {
        block = b.0;
        is = b.1;
        off = off_outside u;
        table = subst P same (found.others own.0 (lacks u own) slot here).table;
      }
    where
      lacks : IsFoundUse slots d component_of settled node at index name None → (own : IsOwnerId slots name id) → Contains d.positions.items own.0 → ⊥
      lacks u own c =
          let within : c.0 < length d.positions.items = c.1 in
          let at_is : slice_get d.positions.items c.0 ≡ Some own.0 = slice_get-get_or d.positions.items c.0 own.0 within ∙ ap (λ k. Some k) c.2 in
          let n = node_of_place slots d u.known.found c.0 own.0 at_is in
          let same : n.0 ≡ id = same_Some n.0 id (sym n.1.stands ∙ own.2) in
          none-some c.0 ((u.leads c.0).1 (id, own, n.1.id_is ∙ ap (λ k. Some k) same))

-- ---- what is read

module _ (slots : Slots) (d : Dependents) (component_of : List ℕ) (settled : List Settled) (node at index : ℕ) (name : List ℕ) (row : List (Option ℕ)) where
  edge_stands : IsKnown slots d component_of settled → slice_get d.positions.items node ≡ Some at → IsUseAt (blocks_of slots) at index name
      → slice_get d.uses node ≡ Some row → (edge : Option ℕ) → slice_index_or row index None ≡ edge → slice_get row index ≡ Some edge
  edge_stands k p u r edge e = slice_get-get_or row index None (row_at slots d k.found node at index name row p u r) ∙ ap (λ o. Some o) e

  -- the edge of the item is that of its use
  pub read_use : IsKnown slots d component_of settled → slice_get d.positions.items node ≡ Some at → IsUseAt (blocks_of slots) at index name
      → slice_get d.uses node ≡ Some row → (edge : Option ℕ) → slice_index_or row index None ≡ edge
      → IsFoundUse slots d component_of settled node at index name edge
  read_use k p u r edge e =
      record { known = k; place = p; of_item = u; leads = edge_is slots d k.found node at index name row edge p u r (edge_stands k p u r edge e) }

  pub read_edge : IsKnown slots d component_of settled → slice_get d.positions.items node ≡ Some at → IsUseAt (blocks_of slots) at index name
      → slice_get d.uses node ≡ Some row → (owner : ℕ) → slice_index_or row index None ≡ Some owner → HasEdge d.uses node owner
  read_edge k p u r owner e = record { row = row; place = index; stands = r; leads = edge_stands k p u r (Some owner) e }

  -- the node that the edge leads to has a component and a place among what was settled
  pub owner_within : (owner : ℕ) → IsFoundUse slots d component_of settled node at index name (Some owner) → (owner < length component_of)
      × (owner < length settled)
  owner_within owner u =
      let w = (u.leads owner).0 refl in
      let within = slice_get_within d.ids.items owner w.0 w.2 in
      (omega (arith, u.known.components.as_many, u.known.found.graph.as_many), omega (arith, u.known.as_many))

  pub node_within : IsKnown slots d component_of settled → slice_get d.uses node ≡ Some row → node < length component_of
  node_within k r = let within = slice_get_within d.uses node row r in omega (arith, k.components.as_many)

-- numbers that are read are those of one component, or not
pub one_component : (component_of : List ℕ) (i j : ℕ) → i < length component_of → j < length component_of
    → slice_index_or component_of j 0 ≡ slice_index_or component_of i 0 → HaveOneNumber component_of i j
one_component component_of i j l m e =
    (slice_index_or component_of i 0, slice_get-get_or component_of i 0 l, slice_get-get_or component_of j 0 m ∙ ap (λ k. Some k) e)

pub two_components : (component_of : List ℕ) (i j : ℕ) → (slice_index_or component_of j 0 ≡ slice_index_or component_of i 0 → ⊥)
    → HaveOneNumber component_of i j → ⊥
two_components component_of i j n one = n (get_or_from_slice_get component_of j one.0 0 one.2 ∙ sym (get_or_from_slice_get component_of i one.0 0 one.1))

-- an owner of another component was settled
pub settled_owner : (slots : Slots) (d : Dependents) (component_of : List ℕ) (settled : List Settled) (node owner : ℕ)
    → HasSettledOwners slots d component_of settled node → HasEdge d.uses node owner → (HaveOneNumber component_of node owner → ⊥)
    → IsSettledNode slots d settled owner
settled_owner slots d component_of settled node owner h edge apart = elim (h owner edge) [ inl one ↦ absurd (apart one) | inr right ↦ right ]
