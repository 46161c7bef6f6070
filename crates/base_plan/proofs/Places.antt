-- Blocks by their positions and nodes, and the graph of their uses as the laws speak of it.
use Rattle.std.proofs.Common.{◌≡◌, ℕ, suc, ◌<◌, subst, inl, inr, List, [], ◌∷◌, length, get_or, Option, Some, slice_get, refl, sym, ◌∙◌, ap, arith}
use Rattle.std.proofs.lemmas.Option.{same_Some, slice_get_within, get_or_from_slice_get}
use Rattle.ti_source.specs.Reading.{Reading, ReadItem}
use Rattle.base_meaning.specs.Reaching.{used_name, Uses}
use Rattle.base_meaning.specs.UseLaws as laws
use Rattle.base_meaning.specs.UseLaws.{UsesBlock, IsGraphOf, HaveOneNumber}
use Rattle.base_meaning.specs.Usable.{IsUsable}
use Rattle.base_meaning.proofs.MentionMerging.{uses_at}
use Rattle.base_components.specs.Graph.{Rows}
use Rattle.base_components.specs.Leading.{IsWay}
use Rattle.base_components.specs.Components.{AreComponents}
use Rattle.ti_text.proofs.Lists.{item_at}
use Rattle.base_slots.specs.declared.slots.Slots.{Slots}
use Rattle.base_slots.specs.Slots.{blocks_of, reading_at, StandsAt, IsOwnerId}
use Rattle.base_slots.proofs.Owners.{block_at}
use Rattle.base_dependents.specs.declared.dependents.Dependents.{Dependents}
use Rattle.base_plan.specs.inside.Settling.{AreFoundIn, IsUseAt, IsEdgeTo}

-- ---- blocks by their ids and positions

-- the block with the id, as it is read
abbrev pub block_of : Slots → ℕ → Reading
block_of slots id = reading_at slots id

pub usable_at : (slots : Slots) (d : Dependents) → AreFoundIn slots d → (at : ℕ) (block : Reading) → slice_get (blocks_of slots) at ≡ Some block
    → IsUsable block
usable_at slots d h at block s =
    subst IsUsable (get_or_from_slice_get (blocks_of slots) at block block s) (h.usable at block (slice_get_within (blocks_of slots) at block s))

-- ---- nodes

-- the id and the position of a node
pub record IsNode (slots : Slots) (d : Dependents) (node at id : ℕ) : Type 0 where
  pub id_is : slice_get d.ids.items node ≡ Some id
  pub at_is : slice_get d.positions.items node ≡ Some at
  pub stands : StandsAt slots at id
  pub block : slice_get (blocks_of slots) at ≡ Some (block_of slots id)

pub node_of_place : (slots : Slots) (d : Dependents) → AreFoundIn slots d → (node at : ℕ) → slice_get d.positions.items node ≡ Some at → (id : ℕ)
    × IsNode slots d node at id
node_of_place slots d h node at e =
    let id = item_at d.ids.items node (omega (arith, slice_get_within d.positions.items node at e, h.as_many)) in
    let stands = h.stands node id.0 at id.1 e in
    (id.0, record { id_is = id.1; at_is = e; stands = stands; block = block_at slots at id.0 h.distinct stands })

pub node_of_id : (slots : Slots) (d : Dependents) → AreFoundIn slots d → (node id : ℕ) → slice_get d.ids.items node ≡ Some id → (at : ℕ)
    × IsNode slots d node at id
node_of_id slots d h node id e =
    let at = item_at d.positions.items node (omega (arith, slice_get_within d.ids.items node id e, h.as_many)) in
    let stands = h.stands node id at.0 e at.1 in
    (at.0, record { id_is = e; at_is = at.1; stands = stands; block = block_at slots at.0 id h.distinct stands })

-- a position is that of one node
pub one_node : (slots : Slots) (d : Dependents) → AreFoundIn slots d → (node other at : ℕ) → slice_get d.positions.items node ≡ Some at
    → slice_get d.positions.items other ≡ Some at → node ≡ other
one_node slots d h node other at e f =
    let one = node_of_place slots d h node at e in
    let two = node_of_place slots d h other at f in
    let same : two.0 ≡ one.0 = same_Some two.0 one.0 (sym two.1.stands ∙ one.1.stands) in
    h.once node other one.0 one.1.id_is (two.1.id_is ∙ ap (λ k. Some k) same)

-- ---- places of uses

pub place_of_use : (items : List ReadItem) (name : List ℕ) → Uses items name → (k : ℕ) × (item : ReadItem) × (slice_get items k ≡ Some item)
    × (used_name item.said ≡ Some name)
place_of_use [] name u = absurd u
place_of_use (i ∷ is) name (inl here) = (0, i, refl, here)
place_of_use (i ∷ is) name (inr later) = let w = place_of_use is name later in (suc w.0, w.1, w.2, w.3)

pub use_of_place : (blocks : List Reading) (at index : ℕ) (name : List ℕ) (block : Reading) → IsUseAt blocks at index name
    → slice_get blocks at ≡ Some block → Uses block.items name
use_of_place blocks at index name block u s =
    let same : u.block ≡ block = same_Some u.block block (sym u.stands ∙ s) in
    let P : Reading → Type 0 = λ b. Uses b.items name in
    subst P same (uses_at u.block.items index u.item name u.places u.uses)

-- ---- edges

-- the edge of a use leads to the name's owner
pub edge_is : (slots : Slots) (d : Dependents) → AreFoundIn slots d → (node at index : ℕ) (name : List ℕ) (row : List (Option ℕ)) (edge : Option ℕ)
    → slice_get d.positions.items node ≡ Some at → IsUseAt (blocks_of slots) at index name → slice_get d.uses node ≡ Some row → slice_get row index ≡ Some edge
    → IsEdgeTo slots d.ids.items name edge
edge_is slots d h node at index name row edge p u r e =
    let n = node_of_place slots d h node at p in
    let same : u.block ≡ block_of slots n.0 = same_Some u.block (block_of slots n.0) (sym u.stands ∙ n.1.block) in
    let P : Reading → Type 0 = λ b. slice_get b.items index ≡ Some u.item in
    let is = (h.graph.rows node n.0 row n.1.id_is r).edges index u.item edge (subst P same u.places) e in
    λ place. (
      λ f. (let w = (is place).0 f in
          let name_is : w.0 ≡ name = same_Some w.0 name (sym w.2 ∙ u.uses) in
          let Q : List ℕ → Type 0 = λ m. IsOwnerId slots m w.1 in
          (w.1, subst Q name_is w.3, w.4)),
      λ w. (is place).1 (name, w.0, u.uses, w.1, w.2),
    )

pub row_at : (slots : Slots) (d : Dependents) → AreFoundIn slots d → (node at index : ℕ) (name : List ℕ) (row : List (Option ℕ))
    → slice_get d.positions.items node ≡ Some at → IsUseAt (blocks_of slots) at index name → slice_get d.uses node ≡ Some row → index < length row
row_at slots d h node at index name row p u r =
    let n = node_of_place slots d h node at p in
    let same : u.block ≡ block_of slots n.0 = same_Some u.block (block_of slots n.0) (sym u.stands ∙ n.1.block) in
    let within = slice_get_within u.block.items index u.item u.places in
    let lengths : length u.block.items ≡ length (block_of slots n.0).items = ap (λ (b : Reading). length b.items) same in
    let as_many = (h.graph.rows node n.0 row n.1.id_is r).as_many in
    omega arith

-- the graph has an edge between the nodes of two blocks if the one uses the other
pub graph_of : (slots : Slots) (d : Dependents) → AreFoundIn slots d → IsGraphOf (blocks_of slots) d.positions.items (laws.HasOptionalEdge d.uses)
graph_of slots d h i j = (there slots d h i j, back slots d h i j) where
  there : (slots : Slots) (d : Dependents) → AreFoundIn slots d → (i j : ℕ) → laws.HasOptionalEdge d.uses i j → (at : ℕ) × (used : ℕ)
      × (slice_get d.positions.items i ≡ Some at) × (slice_get d.positions.items j ≡ Some used) × UsesBlock (blocks_of slots) at used
  there slots d h i j w =
      let id = item_at d.ids.items i (omega (arith, slice_get_within d.uses i w.0 w.1, h.graph.as_many)) in
      let n = node_of_id slots d h i id.0 id.1 in
      let row = h.graph.rows i id.0 w.0 id.1 w.1 in
      let item = item_at (block_of slots id.0).items w.2.0 (omega (arith, slice_get_within w.0 w.2.0 (Some j) w.2.1, row.as_many)) in
      let own = (row.edges w.2.0 item.0 (Some j) item.1 w.2.1 j).0 refl in
      let m = node_of_id slots d h j own.1 own.4 in
      let same : own.3.0 ≡ m.0 = h.distinct own.3.0 m.0 own.1 own.3.2 m.1.stands in (
        n.0,
        m.0,
        n.1.at_is,
        m.1.at_is,
        (block_of slots id.0, n.1.block, (own.0, uses_at (block_of slots id.0).items w.2.0 item.0 own.0 item.1 own.2, own.3.1 ∙ ap (λ k. Some k) same)),
      )

  back : (slots : Slots) (d : Dependents) → AreFoundIn slots d → (i j : ℕ) → (at : ℕ) × (used : ℕ) × (slice_get d.positions.items i ≡ Some at)
      × (slice_get d.positions.items j ≡ Some used) × UsesBlock (blocks_of slots) at used → laws.HasOptionalEdge d.uses i j
  back slots d h i j w =
      let m = node_of_place slots d h j w.1 w.3 in
      let use_place = place_of_use w.4.0.items w.4.2.0 w.4.2.1 in
      let use_at : IsUseAt (blocks_of slots) w.0 use_place.0 w.4.2.0 =
      record { block = w.4.0; stands = w.4.1; item = use_place.1; places = use_place.2; uses = use_place.3 } in
      let row = item_at d.uses i (omega (arith, slice_get_within d.positions.items i w.0 w.2, h.graph.as_many, h.as_many)) in
      let edge = item_at row.0 use_place.0 (row_at slots d h i w.0 use_place.0 w.4.2.0 row.0 w.2 use_at row.1) in
      let is = (edge_is slots d h i w.0 use_place.0 w.4.2.0 row.0 edge.0 w.2 use_at row.1 edge.1 j).1 (m.0, (w.1, w.4.2.2, m.1.stands), m.1.id_is) in
      (row.0, row.1, (use_place.0, edge.1 ∙ ap (λ o. Some o) is))

-- ---- components

walk_of_way : (g : Rows) (u w : ℕ) (way : List ℕ) → IsWay g u way w → laws.IsEdgeWalk (laws.HasOptionalEdge g) u way w
walk_of_way g u w [] h = h
walk_of_way g u w (x ∷ way) h = ((h.0.row, h.0.stands, (h.0.place, h.0.leads)), walk_of_way g x w way h.1)

way_of_walk : (g : Rows) (u w : ℕ) (way : List ℕ) → laws.IsEdgeWalk (laws.HasOptionalEdge g) u way w → IsWay g u way w
way_of_walk g u w [] h = h
way_of_walk g u w (x ∷ way) h = (record { row = h.0.0; place = h.0.2.0; stands = h.0.1; leads = h.0.2.1 }, way_of_walk g x w way h.1)

-- the components of the graph, as the laws speak of them
pub components_of : (g : Rows) (numbers : List ℕ) (count : ℕ) → AreComponents g numbers → count ≡ length g
    → laws.MarksComponents count (laws.HasOptionalEdge g) (HaveOneNumber numbers)
components_of g numbers count h n i j within_i within_j =
    let c = item_at numbers i (omega (arith, h.as_many)) in
    let d = item_at numbers j (omega (arith, h.as_many)) in
    let same = h.same i j c.0 d.0 c.1 d.1 in (
      λ one. (let e : c.0 ≡ one.0 = same_Some c.0 one.0 (sym c.1 ∙ one.1) in
          let f : d.0 ≡ one.0 = same_Some d.0 one.0 (sym d.1 ∙ one.2) in
          let w = same.0 (e ∙ sym f) in
          ((w.0.0, walk_of_way g i j w.0.0 w.0.1), (w.1.0, walk_of_way g j i w.1.0 w.1.1))),
      λ w. (let e = same.1 ((w.0.0, way_of_walk g i j w.0.0 w.0.1), (w.1.0, way_of_walk g j i w.1.0 w.1.1)) in
          (c.0, c.1, d.1 ∙ ap (λ k. Some k) (sym e))),
    )

-- ---- what is read of a node

pub node_read : (slots : Slots) (d : Dependents) → AreFoundIn slots d → (node at id : ℕ) → slice_get d.positions.items node ≡ Some at
    → id ≡ get_or d.ids.items node id → IsNode slots d node at id
node_read slots d h node at id p e =
    let n = node_of_place slots d h node at p in
    let same : n.0 ≡ id = sym (e ∙ get_or_from_slice_get d.ids.items node n.0 id n.1.id_is) in
    subst (λ k. IsNode slots d node at k) same n.1
