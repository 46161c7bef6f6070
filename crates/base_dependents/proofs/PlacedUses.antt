-- What the graph of the uses among dependents says of the blocks at their positions, for what
-- settles them.
use Rattle.std.proofs.Common.{◌≡◌, ℕ, zero, suc, ◌<◌, inl, inr, List, [], ◌∷◌, length, Option, Some, slice_get, refl, sym, ◌∙◌, ap, subst, arith}
use Rattle.std.proofs.lemmas.Option.{same_Some, none-some, slice_get_within}
use Rattle.ti_source.specs.Reading.{Reading, ReadItem}
use Rattle.base_meaning.specs.Owner.{owner}
use Rattle.base_meaning.specs.Reaching.{used_name, Uses}
use Rattle.base_meaning.specs.UseLaws.{UsesBlock, IsGraphOf, HasOptionalEdge}
use Rattle.base_components.specs.Graph.{Rows, HasEdge as LeadsTo}
use Rattle.ti_text.specs.Lists.{AreDistinct}
use Rattle.ti_text.proofs.Lists.{item_at}
use Rattle.base_slots.specs.declared.slots.Slots.{Slots}
use Rattle.base_slots.specs.Slots.{ids_of, blocks_of, reading_at, StandsAt, IsOwnerId}
use Rattle.base_dependents.specs.Dependents.{AreDependentIds, IsGraphOfUses, IsEdgeRowOf}
use Rattle.base_slots.proofs.Owners.{block_at}

-- ---- edges, in the words of either crate

pub edge_to : (graph : Rows) (i j : ℕ) → HasOptionalEdge graph i j → LeadsTo graph i j
edge_to graph i j (row, stands, (place, leads)) = record { row = row; place = place; stands = stands; leads = leads }

pub edge_from : (graph : Rows) (i j : ℕ) → LeadsTo graph i j → HasOptionalEdge graph i j
edge_from graph i j h = (h.row, h.stands, (h.place, h.leads))

-- ---- used names by the positions of their items

pub use_place : (items : List ReadItem) (name : List ℕ) → Uses items name → (k : ℕ) × (item : ReadItem) × (slice_get items k ≡ Some item)
    × (used_name item.said ≡ Some name)
use_place [] name u = absurd u
use_place (item ∷ items) name (inl here) = (0, item, refl, here)
use_place (item ∷ items) name (inr later) = let w = use_place items name later in (suc w.0, w.1, w.2, w.3)

pub place_uses : (items : List ReadItem) (k : ℕ) (item : ReadItem) (name : List ℕ) → slice_get items k ≡ Some item → used_name item.said ≡ Some name
    → Uses items name
place_uses [] k item name e u = absurd (none-some item e)
place_uses (x ∷ items) zero item name e u = inl (ap (λ y. used_name y.said) (same_Some x item e) ∙ u)
place_uses (x ∷ items) (suc k) item name e u = inr (place_uses items k item name e u)

-- a name belongs to the block at the one place where its owner is
pub owner_place : (s : Slots) (name : List ℕ) (id at : ℕ) → AreDistinct (ids_of s) → IsOwnerId s name id → StandsAt s at id → owner (blocks_of s) name ≡ Some at
owner_place s name id at once (place, owns, stands) here = owns ∙ ap (λ p. Some p) (once place at id stands here)

-- ---- an edge for each use of a dependent by another

module _ (s : Slots) (ids positions : List ℕ) (graph : Rows) (many : length positions ≡ length ids)
    (stands : (i id at : ℕ) → slice_get ids i ≡ Some id → slice_get positions i ≡ Some at → StandsAt s at id) (once : AreDistinct (ids_of s))
    (h : IsGraphOfUses s ids graph) where
  -- the block of a place among the ids
  id_of : (i at : ℕ) → slice_get positions i ≡ Some at → (id : ℕ) × (slice_get ids i ≡ Some id) × StandsAt s at id
  id_of i at e =
      let l = slice_get_within positions i at e in
      let there = item_at ids i (let m : i < length ids = omega arith in m) in
      (there.0, there.1, stands i there.0 at there.1 e)

  place_of : (i id : ℕ) → slice_get ids i ≡ Some id → (at : ℕ) × (slice_get positions i ≡ Some at) × StandsAt s at id
  place_of i id e =
      let l = slice_get_within ids i id e in
      let there = item_at positions i (let m : i < length positions = omega arith in m) in
      (there.0, there.1, stands i id there.0 e there.1)

  row_of : (i id : ℕ) → slice_get ids i ≡ Some id → (row : List (Option ℕ)) × (slice_get graph i ≡ Some row) × IsEdgeRowOf s ids (reading_at s id).items row
  row_of i id e =
      let n = h.as_many in
      let l = slice_get_within ids i id e in
      let there = item_at graph i (omega arith) in
      (there.0, there.1, h.rows i id there.0 e there.1)

  edge_uses : (i j : ℕ) → HasOptionalEdge graph i j → (at used : ℕ) × (slice_get positions i ≡ Some at) × (slice_get positions j ≡ Some used)
      × UsesBlock (blocks_of s) at used
  edge_uses i j (row, stands_row, (place, leads)) =
      let n = h.as_many in
      let l = slice_get_within graph i row stands_row in
      let id = item_at ids i (omega arith) in
      let me = place_of i id.0 id.1 in
      let is = h.rows i id.0 row id.1 stands_row in
      let m = is.as_many in
      let k = slice_get_within row place (Some j) leads in
      let item = item_at (reading_at s id.0).items place (omega arith) in
      let w = (is.edges place item.0 (Some j) item.1 leads j).0 refl in
      let you = place_of j w.1 w.4 in
      let own = owner_place s w.0 w.1 you.0 once w.3 you.2 in (
        me.0,
        you.0,
        me.1,
        you.1,
        (
          reading_at s id.0,
          block_at s me.0 id.0 once me.2,
          (w.0, place_uses (reading_at s id.0).items place item.0 w.0 item.1 w.2, own),
        ),
      )

  uses_edge : (i j at used : ℕ) → slice_get positions i ≡ Some at → slice_get positions j ≡ Some used → UsesBlock (blocks_of s) at used
      → HasOptionalEdge graph i j
  uses_edge i j at used e f u =
      let me = id_of i at e in
      let you = id_of j used f in
      let row = row_of i me.0 me.1 in
      let named = subst (λ (b : Reading). Uses b.items u.2.0) (same_Some u.0 (reading_at s me.0) (sym u.1 ∙ block_at s at me.0 once me.2)) u.2.1 in
      let k = use_place (reading_at s me.0).items u.2.0 named in
      let m = row.2.as_many in
      let l = slice_get_within (reading_at s me.0).items k.0 k.1 k.2 in
      let edge = item_at row.0 k.0 (omega arith) in
      let leads = (row.2.edges k.0 k.1 edge.0 k.2 edge.1 j).1 (u.2.0, you.0, k.3, (used, u.2.2, you.2), you.1) in
      (row.0, row.1, (k.0, edge.1 ∙ ap (λ o. Some o) leads))

  pub graph_of_positions : IsGraphOf (blocks_of s) positions (HasOptionalEdge graph)
  graph_of_positions i j = ((λ e. edge_uses i j e), λ w. uses_edge i j w.0 w.1 w.2 w.3 w.4)

-- no id is twice in a list (`Slots::ids`)
pub placed_uses : (s : Slots) (put : Option ℕ) (out : List (List ℕ)) (ids positions : List ℕ) (graph : Rows) → AreDependentIds s put out ids positions
    → AreDistinct (ids_of s) → IsGraphOfUses s ids graph → IsGraphOf (blocks_of s) positions (HasOptionalEdge graph)
placed_uses s put out ids positions graph d once h = graph_of_positions s ids positions graph d.as_many d.stands once h
