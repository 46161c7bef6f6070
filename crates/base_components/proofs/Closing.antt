-- The step of a path search that closes a component: the nodes from its start on leave the path.
use Rattle.std.proofs.Common.{◌≡◌, ℕ, suc, ◌+◌, ◌-◌, ◌<◌, ◌≤◌, ◌⊎◌, inl, inr, List, ◌++◌, length, take, drop, Option, Some, slice_get, sym, ◌∙◌, arith}
use Rattle.std.proofs.Common.{length-append, length-drop, length-take}
use Rattle.std.proofs.lemmas.Bool.{cases_lt, cases_eq}
use Rattle.std.proofs.lemmas.Option.{slice_get_within}
use Rattle.base_components.specs.Graph.{Rows, HasEdge}
use Rattle.ti_text.specs.Lists.{Has}
use Rattle.base_components.specs.inside.Search.{IsPath, AreGroups, IsOrderSoFar, IsWalk, IsMarked}
use Rattle.base_components.specs.declared.search.Progress.{Progress}
use Rattle.base_components.specs.declared.search.Progress.TheVariants.{Unseen, OnPath, Closed}
use Rattle.ti_text.proofs.Lists.{get_front, get_back, get_cases, get-take, take_get, get-drop, drop_get, item_at}
use Rattle.base_components.proofs.Rising.{Rises_take, rising_last, but_last, take_last_lacks}
use Rattle.base_components.proofs.Leading.{leads_on}
use Rattle.base_components.proofs.Walking.{unseen_on_path, unseen_closed, on_path_closed, same_place, same_number}

-- what is known if the node at place k, the last that is active and the last start, has no
-- edge left
pub record IsDone (g : Rows) (progress : List Progress) (cursors path starts active order : List ℕ) (top last k : ℕ) : Type 0 where
  pub walk : IsWalk g progress cursors path starts active order
  pub active_count : length active ≡ suc top
  pub active_last : slice_get active top ≡ Some k
  pub start_count : length starts ≡ suc last
  pub start_last : slice_get starts last ≡ Some k
  pub gone : (v i : ℕ) (row : List (Option ℕ)) → slice_get path k ≡ Some v → slice_get cursors v ≡ Some i → slice_get g v ≡ Some row → length row ≤ i

module _ (g : Rows) (p q : List Progress) (cursors path starts active order : List ℕ) (top last k : ℕ)
    (h : IsDone g p cursors path starts active order top last k) (m : IsMarked p q (drop k path) (length order)) where
  within_path : k < length path
  within_path = h.walk.going.within k (top, h.active_last)

  -- no start is after k, nor is a place that is active
  start_below : (s : ℕ) → Has starts s → s ≤ k
  start_below s f = rising_last starts last k s h.walk.going.starts_rise h.start_count h.start_last f

  active_below : (s : ℕ) → Has active s → s ≤ k
  active_below s f = rising_last active top k s h.walk.going.active_rises h.active_count h.active_last f

  -- a node of the path from k on is marked
  marked : (j v : ℕ) → k ≤ j → slice_get path j ≡ Some v → slice_get q v ≡ Some (Closed (length order))
  marked j v l e =
      let there : k + (j - k) ≡ j = omega arith in
      m.closed v (j - k, get-drop k path (j - k) v (rw there e))

  -- one that is not on the path from k on is as it was
  kept : (v : ℕ) → ((j : ℕ) → k ≤ j → slice_get path j ≡ Some v → ⊥) → slice_get q v ≡ slice_get p v
  kept v none = m.kept v (λ has. none (k + has.0) (omega arith) (drop_get k path has.0 v has.1))

  kept_before : (j v : ℕ) → j < k → slice_get path j ≡ Some v → slice_get q v ≡ slice_get p v
  kept_before j v l e = kept v (λ i a f.
      let same = same_place (slice_get p v) i j (h.walk.going.stands i v f) (h.walk.going.stands j v e) in
      omega arith)

  kept_closed : (v c : ℕ) → slice_get p v ≡ Some (Closed c) → slice_get q v ≡ Some (Closed c)
  kept_closed v c e = kept v (λ j l f. on_path_closed (slice_get p v) j c (h.walk.going.stands j v f) e) ∙ e

  -- what is closed was closed, or is marked
  was : (v c : ℕ) → slice_get q v ≡ Some (Closed c) → (slice_get p v ≡ Some (Closed c)) ⊎ ((j : ℕ) × (k ≤ j) × (slice_get path j ≡ Some v) × (c ≡ length order))
  was v c e =
      let x = item_at p v (omega (arith, slice_get_within q v (Closed c) e, m.as_many)) in from x.0 x.1 where
        from : (x : Progress) → slice_get p v ≡ Some x → (slice_get p v ≡ Some (Closed c))
            ⊎ ((j : ℕ) × (k ≤ j) × (slice_get path j ≡ Some v) × (c ≡ length order))
        from Unseen f =
            let same = kept v (λ j l a. unseen_on_path (slice_get p v) j f (h.walk.going.stands j v a)) in
            absurd (unseen_closed (slice_get q v) c (same ∙ f) e)
        from (OnPath j) f =
            let here = h.walk.going.on v j f in
            elim (cases_lt j k) [
              | inl before ↦ absurd (on_path_closed (slice_get q v) j c (kept_before j v before here ∙ f) e)
              | inr behind ↦ inr (j, behind, here, same_number (slice_get q v) c (length order) e (marked j v behind here))
            ]
        from (Closed d) f =
            let same = same_number (slice_get q v) d c (kept_closed v d f) e in
            inl (rw (← same) f)

  path_closed : IsPath g q cursors (take k path) (take last starts) (take top active)
  path_closed =
      let w = h.walk.going in
      record {
        nodes = m.as_many ∙ w.nodes;
        cursor_each = w.cursor_each;
        on = λ v j e.
            let same = kept v (λ i l f. on_path_closed (slice_get q v) j (length order) e (marked i v l f)) in
            let here = w.on v j (sym same ∙ e) in
            elim (cases_lt j k) [
              | inl before ↦ get-take k path j v before here
              | inr behind ↦ absurd (on_path_closed (slice_get q v) j (length order) e (marked j v behind here))
            ];
        stands = λ j v e. let f = take_get k path j v e in kept_before j v f.0 f.1 ∙ w.stands j v f.1;
        fresh = λ v e. w.fresh v (sym (kept v (λ i l f. unseen_closed (slice_get q v) (length order) e (marked i v l f))) ∙ e);
        first = λ l.
            let some : 0 < k = omega (arith, length-take k path) in
            elim (but_last starts last k 0 h.start_count h.start_last (w.first (omega (arith, within_path)))) [
              | inl there ↦ there
              | inr same ↦ absurd (omega arith)
            ];
        starts_rise = Rises_take last starts w.starts_rise;
        active_rises = Rises_take top active w.active_rises;
        held = λ s f.
            let l = take_last_lacks starts last k s w.starts_rise h.start_last f in
            elim (but_last active top k s h.active_count h.active_last (w.held s l.0)) [
              | inl there ↦ there
              | inr same ↦ (let n = l.1 in absurd (omega arith))
            ];
        within = λ j f. let l = take_last_lacks active top k j w.active_rises h.active_last f in omega (arith, l.1, length-take k path, within_path);
        spent = λ j v i row e lacks c r.
            let f = take_get k path j v e in
            w.spent j v i row f.1 (λ has. elim (but_last active top k j h.active_count h.active_last has) [
              | inl there ↦ lacks there
              | inr same ↦ (let n = f.0 in omega arith)
            ]) c r;
        forward = λ i j u v l a b. w.forward i j u v l (take_get k path i u a).1 (take_get k path j v b).1;
        back = λ i j u v l a b none.
            let f = take_get k path j v b in
            w.back i j u v l (take_get k path i u a).1 f.1 (λ s t n. elim (but_last starts last k s h.start_count h.start_last t) [
              | inl there ↦ none s there n
              | inr same ↦ (let o = f.0 in omega arith)
            ]);
        explored = λ j u i place v row a c l r e.
            let f = take_get k path j u a in
            elim (w.explored j u i place v row f.1 c l r e) [
              | inl closed ↦ inl (closed.0, kept_closed v closed.0 closed.1)
              | inr on ↦ elim (cases_lt on.0 k) [
                | inl before ↦ inr (on.0, get-take k path on.0 v before on.1, λ s t. on.2 s (take_last_lacks starts last k s w.starts_rise h.start_last t).0)
                | inr behind ↦ inl (length order, marked on.0 v behind on.1)
              ]
            ];
      }

  -- an edge from a node of the path from k on leads to what is closed now
  edge_closed : (j u v : ℕ) → k ≤ j → slice_get path j ≡ Some u → HasEdge g u v → (d : ℕ) × (slice_get q v ≡ Some (Closed d)) × (d ≤ length order)
  edge_closed j u v l a e =
      let w = h.walk.going in
      let cursor = item_at cursors u (omega (arith, slice_get_within g u e.row e.stands, w.cursor_each)) in
      let all : length e.row ≤ cursor.0 = elim (cases_eq j k) [
        | inl same ↦ h.gone u cursor.0 e.row (rw same at a) cursor.1 e.stands
        | inr other ↦ w.spent j u cursor.0 e.row a (λ has. (let n = active_below j has in other (omega arith))) cursor.1 e.stands
      ] in
      let gone = slice_get_within e.row e.place (Some v) e.leads in
      elim (w.explored j u cursor.0 e.place v e.row a cursor.1 (omega arith) e.stands e.leads) [
        | inl closed ↦ (closed.0, kept_closed v closed.0 closed.1, (let n = h.walk.shut.below v closed.0 closed.1 in omega arith))
        | inr on ↦ (length order, marked on.0 v (on.2 k (last, h.start_last) l) on.1, omega arith)
      ]

  groups_closed : AreGroups g q (length (order ++ drop k path))
  groups_closed =
      let w = h.walk.going in
      record {
        edges = λ u v c e edge. elim (was u c e) [
          | inl old ↦ let t = h.walk.shut.edges u v c old edge in (t.0, kept_closed v t.0 t.1, t.2)
          | inr new ↦ let t = edge_closed new.0 u v new.1 new.2 edge in (t.0, t.1, (let n = t.2 in let o = new.3 in omega arith))
        ];
        same = λ u v c e f. elim (was u c e) [
          | inl old ↦ elim (was v c f) [
            | inl also ↦ h.walk.shut.same u v c old also
            | inr new ↦ (let n = h.walk.shut.below u c old in let o = new.3 in absurd (omega arith))
          ]
          | inr new ↦ elim (was v c f) [
            | inl old ↦ (let n = h.walk.shut.below v c old in let o = new.3 in absurd (omega arith))
            | inr also ↦
                let x = item_at path k within_path in
                leads_on g u x.0 v
                (w.back k new.0 x.0 u new.1 x.1 new.2 (λ s t n. (let l = start_below s t in absurd (omega arith))))
                (w.forward k also.0 x.0 v also.1 x.1 also.2)
          ]
        ];
        below = λ u c e. elim (was u c e) [
          | inl old ↦ (let n = h.walk.shut.below u c old in omega (arith, length-append order (drop k path)))
          | inr new ↦ (let o = new.3 in omega (arith, length-append order (drop k path), length-drop k path, within_path))
        ];
      }

  order_closed : IsOrderSoFar q (order ++ drop k path)
  order_closed =
      let w = h.walk.going in
      let o = h.walk.listing in
      record {
        listed = λ u c e. elim (was u c e) [
          | inl old ↦ let t = o.listed u c old in (t.0, get_front order (drop k path) t.0 u t.1)
          | inr new ↦
              let there : k + (new.0 - k) ≡ new.0 = (let l = new.1 in omega arith) in
              (length order + (new.0 - k), get_back order (drop k path) (new.0 - k) u (get-drop k path (new.0 - k) u (rw there new.2)))
        ];
        closed = λ i u e. elim (get_cases order (drop k path) i u e) [
          | inl old ↦ let t = o.closed i u old in (t.0, kept_closed u t.0 t.1, t.2)
          | inr new ↦ (length order, marked (k + new.0) u (omega arith) (drop_get k path new.0 u new.2), (let n = new.1 in omega arith))
        ];
        early = λ j v d u c e f n l. elim (get_cases order (drop k path) j v e) [
          | inl old ↦
              let t = o.closed j v old in
              let same : t.0 ≡ d = same_number (slice_get q v) t.0 d (kept_closed v t.0 t.1) f in
              elim (was u c n) [
                | inl before ↦ o.early j v d u c old (rw same at t.1) before l
                | inr new ↦ (let within = slice_get_within order j v old in let r = new.3 in omega arith)
              ]
          | inr new ↦
              let same = same_number (slice_get q v) d (length order) f (marked (k + new.0) v (omega arith) (drop_get k path new.0 v new.2)) in
              elim (was u c n) [
                | inl before ↦ (let r = h.walk.shut.below u c before in absurd (omega arith))
                | inr also ↦ (let r = also.3 in absurd (omega arith))
              ]
        ];
        first = λ u c e. elim (was u c e) [
          | inl old ↦ let t = o.first u c old in (t.0, get_front order (drop k path) c t.0 t.1, kept_closed t.0 c t.2)
          | inr new ↦
              let x = item_at path k within_path in
              let zero_behind : k + 0 ≡ k = omega arith in
              let none : length order + 0 ≡ c = (let r = new.3 in omega arith) in
              let same : length order ≡ c = sym new.3 in
              (x.0, rw (← none) (get_back order (drop k path) 0 x.0 (get-drop k path 0 x.0 (rw zero_behind x.1))), rw (← same) (marked k x.0 (omega arith) x.1))
        ];
        once = λ i j u e f. elim (get_cases order (drop k path) i u e) [
          | inl old ↦ elim (get_cases order (drop k path) j u f) [
            | inl also ↦ o.once i j u old also
            | inr new ↦ let t = o.closed i u old in
                absurd (on_path_closed (slice_get p u) (k + new.0) t.0 (w.stands (k + new.0) u (drop_get k path new.0 u new.2)) t.1)
          ]
          | inr new ↦ elim (get_cases order (drop k path) j u f) [
            | inl old ↦ let t = o.closed j u old in
                absurd (on_path_closed (slice_get p u) (k + new.0) t.0 (w.stands (k + new.0) u (drop_get k path new.0 u new.2)) t.1)
            | inr also ↦
                let one = same_place (slice_get p u) (k + new.0) (k + also.0) (w.stands (k + new.0) u (drop_get k path new.0 u new.2))
                (w.stands (k + also.0) u (drop_get k path also.0 u also.2)) in
                let a = new.1 in let b = also.1 in omega arith
          ]
        ];
      }

  pub walk_closed : IsWalk g q cursors (take k path) (take last starts) (take top active) (order ++ drop k path)
  walk_closed = record { going = path_closed; shut = groups_closed; listing = order_closed }
