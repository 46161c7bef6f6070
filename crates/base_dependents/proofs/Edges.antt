-- The edges of the graph of the blocks found, item by item.
use Rattle.std.proofs.Common.{◌≡◌, ℕ, ◌≤◌, inl, inr, List, [], ◌∷◌, ◌++◌, length, take, nat_eq, position, Option, Some, is_some, refl, sym, ◌∙◌, ap, subst}
use Rattle.std.proofs.Common.{arith}
use Rattle.std.specs.List.{list_any, IsDistinct}
use Rattle.std.proofs.lemmas.List.{length-append, take_all}
use Rattle.std.proofs.lemmas.Option.{same_Some, none-some, slice_get_within}
use Rattle.ti_source.specs.Reading.{ReadItem}
use Rattle.base_meaning.specs.Reaching.{used_name}
use Rattle.base_components.specs.Graph.{Rows, AddsEdge, IsGraph}
use Rattle.ti_text.proofs.Lists.{push_cases, item_at}
use Rattle.base_slots.specs.declared.slots.Slots.{Slots}
use Rattle.base_slots.specs.Slots.{reading_at, IsOwnerId}
use Rattle.base_dependents.specs.Dependents.{IsEdgeOf, IsEdgeRowOf, IsGraphOfUses}
use Rattle.base_dependents.specs.inside.Uses.{AddsRow, AreRowsOf}
use Rattle.base_dependents.proofs.Lists.{place_given, place_found}
use Rattle.base_dependents.proofs.Owners.{owner_one}

-- the edge of an item that uses a name with an owner leads to the place of the owner
pub edge_there : (s : Slots) (ids : List ℕ) (item : ReadItem) (name : List ℕ) (holder : ℕ) (edge : Option ℕ) → IsDistinct nat_eq ids
    → used_name item.said ≡ Some name → IsOwnerId s name holder → edge ≡ position (nat_eq holder) ids → is_some edge ≡ list_any (nat_eq holder) ids
    → IsEdgeOf s ids item edge
edge_there s ids item name holder edge d used own e some = λ place. (
  (λ f. (name, holder, used, own, place_given ids holder edge place e f)),
  λ w.
      let same : w.0 ≡ name = same_Some w.0 name (sym w.2 ∙ used) in
      let P : List ℕ → Type 0 = λ n. IsOwnerId s n w.1 in
      let one : w.1 ≡ holder = owner_one s name w.1 holder (subst P same w.3) own in
      place_found ids holder edge place d e some (w.4 ∙ ap (λ x. Some x) one),
)

-- ---- a row

pub row_begun : (s : Slots) (ids : List ℕ) (old new : Rows) → new ≡ old ++ [] ∷ [] → AddsRow s ids [] old new
row_begun s ids old new e = record {
  row = [];
  of_items = record { as_many = refl; edges = λ k item edge f. absurd (none-some item f) };
  behind = e;
}

row_of_more : (s : Slots) (ids : List ℕ) (items : List ReadItem) (row : List (Option ℕ)) (item : ReadItem) (edge : Option ℕ) → IsEdgeRowOf s ids items row
    → IsEdgeOf s ids item edge → IsEdgeRowOf s ids (items ++ item ∷ []) (row ++ edge ∷ [])
row_of_more s ids items row item edge h k = record {
  as_many = (let n = h.as_many in omega (arith, length-append row (edge ∷ []), length-append items (item ∷ [])));
  edges = λ at i e f g.
      elim (push_cases items item at i f) [
        | inl early ↦ elim (push_cases row edge at e g) [
          | inl too ↦ h.edges at i e early too
          | inr last ↦ (let n = h.as_many in let l = slice_get_within items at i early in let m : at ≡ length row = last.0 in absurd (omega arith))
        ]
        | inr late ↦ elim (push_cases row edge at e g) [
          | inl early ↦ (let n = h.as_many in let l = slice_get_within row at e early in let m : at ≡ length items = late.0 in absurd (omega arith))
          | inr last ↦ rw (late.1, last.1) k
        ]
      ];
}

pub row_more : (s : Slots) (ids : List ℕ) (items : List ReadItem) (item : ReadItem) (edge : Option ℕ) (old mid new : Rows) → AddsRow s ids items old mid
    → AddsEdge mid new edge → IsEdgeOf s ids item edge → AddsRow s ids (items ++ item ∷ []) old new
row_more s ids items item edge old mid new h adds k = record {
  row = h.row ++ edge ∷ [];
  of_items = row_of_more s ids items h.row item edge h.of_items k;
  behind = adds old h.row h.behind;
}

-- ---- the rows of all

pub rows_begun : (s : Slots) (ids : List ℕ) (graph : Rows) → graph ≡ [] → AreRowsOf s ids [] graph
rows_begun s ids graph e = record {
  as_many = ap (λ g. length g) e;
  rows = λ i id row f. absurd (none-some id f);
}

pub rows_more : (s : Slots) (ids done : List ℕ) (id : ℕ) (items : List ReadItem) (old new : Rows) → AreRowsOf s ids done old
    → items ≡ (reading_at s id).items → AddsRow s ids items old new → AreRowsOf s ids (done ++ id ∷ []) new
rows_more s ids done id items old new h same adds = rw adds.behind (record {
  as_many = (let n = h.as_many in omega (arith, length-append old (adds.row ∷ []), length-append done (id ∷ [])));
  rows = λ at x row f g.
      elim (push_cases done id at x f) [
        | inl early ↦ elim (push_cases old adds.row at row g) [
          | inl too ↦ h.rows at x row early too
          | inr last ↦ (let n = h.as_many in let l = slice_get_within done at x early in let m : at ≡ length old = last.0 in absurd (omega arith))
        ]
        | inr late ↦ elim (push_cases old adds.row at row g) [
          | inl early ↦ (let n = h.as_many in let l = slice_get_within old at row early in let m : at ≡ length done = late.0 in absurd (omega arith))
          | inr last ↦ rw (late.1, last.1) (let P : List ReadItem → Type 0 = λ is. IsEdgeRowOf s ids is adds.row in subst P same adds.of_items)
        ]
      ];
})

pub rows_ended : (s : Slots) (ids items : List ℕ) (k : ℕ) (graph : Rows) → items ≡ ids → length items ≤ k → AreRowsOf s ids (take k items) graph
    → IsGraphOfUses s ids graph
rows_ended s ids items k graph e l h =
    let P : List ℕ → Type 0 = λ done. AreRowsOf s ids done graph in
    let all : AreRowsOf s ids ids graph = subst P (take_all k items l ∙ e) h in
    record { as_many = all.as_many; rows = all.rows }

-- each edge leads to one of them
pub uses_whole : (s : Slots) (ids : List ℕ) (graph : Rows) → IsGraphOfUses s ids graph → IsGraph graph
uses_whole s ids graph h from to edge =
    let n = h.as_many in
    let l = slice_get_within graph from edge.row edge.stands in
    let id = item_at ids from (omega arith) in
    let row = h.rows from id.0 edge.row id.1 edge.stands in
    let m = row.as_many in
    let k = slice_get_within edge.row edge.place (Some to) edge.leads in
    let item = item_at (reading_at s id.0).items edge.place (omega arith) in
    let w = (row.edges edge.place item.0 (Some to) item.1 edge.leads to).0 refl in
    let r = slice_get_within ids to w.1 w.4 in
    omega arith
