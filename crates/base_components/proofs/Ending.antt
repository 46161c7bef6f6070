-- What a search of a whole graph has found.
use Rattle.std.proofs.Common.{◌≡◌, ℕ, ◌+◌, ◌<◌, ◌≤◌, inl, inr, List, [], ◌∷◌, ◌++◌, length, take, Some, slice_get, sym, ◌∙◌, ap, arith, length-append}
use Rattle.std.proofs.lemmas.Bool.{cases_lt}
use Rattle.std.proofs.lemmas.List.{take_more}
use Rattle.std.proofs.lemmas.Option.{same_Some, slice_get_within, get_or_from_slice_get}
use Rattle.base_components.specs.Graph.{Rows}
use Rattle.base_components.specs.Leading.{IsWay}
use Rattle.base_components.specs.Components.{AreComponents, IsClosingOrder}
use Rattle.base_components.specs.inside.Search.{AreGroups, AreClosedNumbers, IsSearched}
use Rattle.base_components.specs.declared.search.Progress.{Progress}
use Rattle.base_components.specs.declared.search.Progress.TheVariants.{Unseen, OnPath, Closed}
use Rattle.base_components.specs.declared.search.Search.{Search}
use Rattle.ti_text.proofs.Lists.{get_front, get_last, push_cases, item_at}
use Rattle.base_components.proofs.Walking.{same_number}
use Rattle.base_components.proofs.Searching.{no_path}

-- ---- numbers

pub numbers_more : (p : List Progress) (numbers : List ℕ) (i number : ℕ) → AreClosedNumbers (take i p) numbers → slice_get p i ≡ Some (Closed number)
    → AreClosedNumbers (take (i + 1) p) (numbers ++ number ∷ [])
numbers_more p numbers i number h e =
    let l = slice_get_within p i (Closed number) e in
    rw (take_more p i (Closed number) l, get_or_from_slice_get p i (Closed number) (Closed number) e) (record {
      number_each = omega (arith, length-append numbers (number ∷ []), length-append (take i p) (Closed number ∷ []), h.number_each);
      number = λ v c f. elim (push_cases (take i p) (Closed number) v (Closed c) f) [
        | inl before ↦ get_front numbers (number ∷ []) v c (h.number v c before)
        | inr last ↦
            let spot : v ≡ length numbers = last.0 ∙ sym h.number_each in
            let same = last.1 in
            let value : number ≡ c = cc in
            rw (spot, ← value) (get_last numbers number)
      ];
    })

-- ---- every component is closed

pub closed_all : (g : Rows) (s : Search) → IsSearched g s → (v : ℕ) → v < length g → (c : ℕ) × (slice_get s.progress.items v ≡ Some (Closed c))
closed_all g s h v l = let x = item_at s.progress.items v (omega (arith, h.idle.walk.going.nodes)) in from x.0 x.1 where
  from : (x : Progress) → slice_get s.progress.items v ≡ Some x → (c : ℕ) × (slice_get s.progress.items v ≡ Some (Closed c))
  from Unseen e = absurd (h.all v e)
  from (OnPath k) e = absurd (no_path g s h.idle.walk h.idle.idle k v (h.idle.walk.going.on v k e))
  from (Closed c) e = (c, e)

-- along a walk no number rises
falls_along : (g : Rows) (p : List Progress) (n : ℕ) → AreGroups g p n → (way : List ℕ) (u w c d : ℕ) → IsWay g u way w → slice_get p u ≡ Some (Closed c)
    → slice_get p w ≡ Some (Closed d) → d ≤ c
falls_along g p n h [] u w c d same e f =
    let one = same_number (slice_get p w) c d (ap (slice_get p) (sym same) ∙ e) f in omega arith
falls_along g p n h (x ∷ way) u w c d walk e f =
    let next = h.edges u x c e walk.0 in
    let rest = falls_along g p n h way x w next.0 d walk.1 next.1 f in
    let l = next.2 in omega arith

module _ (g : Rows) (s : Search) (numbers : List ℕ) (h : IsSearched g s) (m : AreClosedNumbers s.progress.items numbers) where
  -- a node's number is that of its closed component
  closed_of : (u c : ℕ) → slice_get numbers u ≡ Some c → slice_get s.progress.items u ≡ Some (Closed c)
  closed_of u c e =
      let within : u < length g = omega (arith, slice_get_within numbers u c e, m.number_each, h.idle.walk.going.nodes) in
      let closed = closed_all g s h u within in
      let same : closed.0 ≡ c = same_Some closed.0 c (sym (m.number u closed.0 closed.1) ∙ e) in
      rw (← same) closed.1

  pub components_found : AreComponents g numbers
  components_found =
      let groups = h.idle.walk.shut in
      record {
        as_many = m.number_each ∙ h.idle.walk.going.nodes;
        same = λ u w c d e f. (
          (λ one.
              let here = closed_of u c e in
              let there : slice_get s.progress.items w ≡ Some (Closed c) = rw one (closed_of w d f) in
              (groups.same u w c here there, groups.same w u c there here)),
          λ lead.
              let a = falls_along g s.progress.items (length s.order.items) groups lead.0.0 u w c d lead.0.1 (closed_of u c e) (closed_of w d f) in
              let b = falls_along g s.progress.items (length s.order.items) groups lead.1.0 w u d c lead.1.1 (closed_of w d f) (closed_of u c e) in
              omega arith,
        );
        falls = λ u w c d e f edge.
            let t = groups.edges u w c (closed_of u c e) edge in
            let same = same_number (slice_get s.progress.items w) t.0 d t.1 (closed_of w d f) in
            let l = t.2 in omega arith;
      }

  pub order_found : IsClosingOrder g numbers s.order.items
  order_found =
      let order = h.idle.walk.listing in
      record {
        listed = λ u l. let t = closed_all g s h u l in order.listed u t.0 t.1;
        nodes = λ i u e. let t = order.closed i u e in rw (← h.idle.walk.going.nodes) (slice_get_within s.progress.items u (Closed t.0) t.1);
        once = order.once;
        before = λ i j u w c d e f a b edge.
            let t = h.idle.walk.shut.edges u w c (closed_of u c a) edge in
            let same = same_number (slice_get s.progress.items w) t.0 d t.1 (closed_of w d b) in
            let o = order.closed i u e in
            let one = same_number (slice_get s.progress.items u) o.0 c o.1 (closed_of u c a) in
            elim (cases_lt d c) [
              | inl less ↦ inr (let early = order.early j w d u c f (closed_of w d b) (closed_of u c a) less in let late = o.2 in omega arith)
              | inr no_less ↦ inl (let l = t.2 in omega arith)
            ];
        starts = λ i u c e a.
            let o = order.closed i u e in
            let one = same_number (slice_get s.progress.items u) o.0 c o.1 (closed_of u c a) in
            let late = o.2 in omega arith;
        first = λ u c a. let t = order.first u c (closed_of u c a) in (t.0, t.1, m.number t.0 c t.2);
      }
