-- The steps of a path search, over the search's own lists.
use Rattle.std.proofs.Common.{◌≡◌, ℕ, zero, suc, ◌+◌, ◌-◌, ◌<◌, ◌≤◌, inl, inr, List, [], ◌∷◌, length, set, take, drop, replicate, get_or, Option, Some}
use Rattle.std.proofs.Common.{None, slice_get, refl, sym, ◌∙◌, ap, arith, length-set, length-append, length-take}
use Rattle.std.proofs.lemmas.Bool.{cases_lt, cases_eq}
use Rattle.std.proofs.lemmas.List.{take_more}
use Rattle.std.proofs.lemmas.Option.{same_Some, none-some, slice_get_within, slice_get-get_or, slice_get_read}
use Rattle.base_components.specs.Graph.{Rows}
use Rattle.base_components.specs.Leading.{Leads}
use Rattle.ti_text.specs.Lists.{Has, AreBelow}
use Rattle.base_components.specs.inside.Search.{ClosesPath, Enters, Follows, IsCutOffAt, IsFresh, IsIdle, IsMarked, IsSearched, IsTop, IsWalkOf, KeepsMet}
use Rattle.base_components.specs.inside.Search.{Leaves, Rises, Steps, WalksFrom, edges_left}
use Rattle.base_components.specs.declared.search.Progress.{Progress}
use Rattle.base_components.specs.declared.search.Progress.TheVariants.{Unseen, OnPath, Closed}
use Rattle.base_components.specs.declared.search.Search.{Search}
use Rattle.ti_text.proofs.Lists.{get_front, get_last, get-take, take_get, get-set_same, get-set_other, Has_push, Has_front, Has_last, item_at}
use Rattle.base_components.proofs.Rising.{Rises_take, rising_last}
use Rattle.base_components.proofs.Leading.{leads_on, leads_edge}
use Rattle.base_components.proofs.Walking.{unseen_on_path, unseen_closed, walk_pushed, path_cut, path_advanced, path_left, no_start}
use Rattle.base_components.proofs.Closing.{IsDone, walk_closed}

-- ---- starts are taken off

-- all from a place on are above
pub record AreAbove (xs : List ℕ) (place count : ℕ) : Type 0 where
  pub within : count ≤ length xs
  pub above : (i s : ℕ) → count ≤ i → slice_get xs i ≡ Some s → place < s

pub above_more : (xs : List ℕ) (place count : ℕ) → AreAbove xs place count → 0 < count → place < get_or xs (count - 1) 0 → AreAbove xs place (count - 1)
above_more xs place count h some more = record {
  within = omega (arith, h.within);
  above = λ i s l e. elim (cases_eq i (count - 1)) [
    | inl same ↦
        let here = slice_get-get_or xs (count - 1) 0 (omega (arith, h.within)) in
        let one : get_or xs (count - 1) 0 ≡ s = same_Some (get_or xs (count - 1) 0) s (sym here ∙ rw same at e) in
        omega arith
    | inr other ↦ h.above i s (omega arith) e
  ];
}

pub cut_done : (xs : List ℕ) (place count : ℕ) → Rises xs → AreAbove xs place count → (0 < count → get_or xs (count - 1) 0 ≤ place)
    → IsCutOffAt xs (take count xs) place
cut_done xs place count rises h stop = record {
  rises = Rises_take count xs rises;
  kept = λ s f.
      let t = take_get count xs f.0 s f.1 in
      let some : 0 < count = omega (arith, t.0) in
      let here = slice_get-get_or xs (count - 1) 0 (omega (arith, h.within)) in (
        (f.0, t.1),
        elim (cases_eq f.0 (count - 1)) [
          | inl same ↦
              let one : get_or xs (count - 1) 0 ≡ s = same_Some (get_or xs (count - 1) 0) s (sym here ∙ rw same at t.1) in
              omega (arith, stop some)
          | inr other ↦ (let m = rises f.0 (count - 1) s (get_or xs (count - 1) 0) (omega (arith, t.0)) t.1 here in omega (arith, stop some))
        ],
      );
  left = λ s f l. elim (cases_lt f.0 count) [
    | inl below ↦ (f.0, get-take count xs f.0 s below f.1)
    | inr behind ↦ (let m = h.above f.0 s behind f.1 in absurd (omega arith))
  ];
}

-- ---- nodes are marked

pub marks_none : (p : List Progress) (number : ℕ) → IsMarked p p [] number
marks_none p number = record {
  as_many = refl;
  closed = λ v f. absurd (none-some v f.1);
  kept = λ v none. refl;
}

pub marks_more : (old p : List Progress) (nodes : List ℕ) (i number : ℕ) → IsMarked old p (take i nodes) number → i < length nodes
    → AreBelow nodes (length old) → IsMarked old (set p (get_or nodes i 0) (Closed number)) (take (i + 1) nodes) number
marks_more old p nodes i number h l known =
    let node = get_or nodes i 0 in
    let within : node < length p = (let k = known i node (slice_get-get_or nodes i 0 l) in omega (arith, h.as_many)) in
    let x = item_at p node within in
    let here = get-set_same p node x.0 (Closed number) x.1 in
    rw (take_more nodes i 0 l) (record {
      as_many = length-set p node (Closed number) ∙ h.as_many;
      closed = λ v f. elim (cases_eq v node) [
        | inl same ↦ rw same here
        | inr other ↦ elim (Has_push (take i nodes) node v f) [
          | inl before ↦ get-set_other p node v (Closed number) other ∙ h.closed v before
          | inr last ↦ absurd (other last)
        ]
      ];
      kept = λ v none.
          get-set_other p node v (Closed number) (λ same. none (rw same (Has_last (take i nodes) node)))
          ∙ h.kept v (λ f. none (Has_front (take i nodes) (node ∷ []) v f));
    })

-- ---- the beginning

get-replicate : {X : Type 0} (n i : ℕ) (x : X) → i < n → slice_get (replicate n x) i ≡ Some x
get-replicate zero i x l = absurd (omega arith)
get-replicate (suc n) zero x l = refl
get-replicate (suc n) (suc i) x l = get-replicate n i x (omega arith)

length-copies : {X : Type 0} (n : ℕ) (x : X) → length (replicate n x) ≡ n
length-copies zero x = refl
length-copies (suc n) x = ap suc (length-copies n x)

pub copies_fresh : (s : Search) (n : ℕ) → s.progress.items ≡ replicate n Unseen → s.cursors.items ≡ replicate n 0 → s.path.items ≡ [] → s.starts.items ≡ []
    → s.active.items ≡ [] → s.order.items ≡ [] → IsFresh s n
copies_fresh s n p c path starts active order = record {
  progress_each = ap length p ∙ length-copies n Unseen;
  cursor_each = ap length c ∙ length-copies n 0;
  unseen = λ v l. rw p (get-replicate n v Unseen l);
  zero_each = λ v l. rw c (get-replicate n v 0 l);
  path = path;
  starts = starts;
  active = active;
  order = order;
}

-- the last active place is the greatest
top_place : (active : List ℕ) (place : ℕ) → Rises active → IsTop active place → (s : ℕ) → Has active s → s ≤ place
top_place active place rises top s f = rising_last active top.top place s rises top.count top.stands f

-- ---- an edge is followed

-- each node of the path leads to the node at the last active place
leads_top : (g : Rows) (s : Search) (place node : ℕ) → IsWalkOf g s → IsTop s.active.items place → slice_get s.path.items place ≡ Some node → (j u : ℕ)
    → slice_get s.path.items j ≡ Some u → Leads g u node
leads_top g s place node h top here j u e = elim (cases_lt place j) [
  | inl up ↦ h.going.back place j node u (omega arith) here e (λ t f n.
      (let below = top_place s.active.items place h.going.active_rises top t (h.going.held t f) in absurd (omega arith)))
  | inr down ↦ h.going.forward j place u node down e here
]

pub follow_entered : (old new : Search) (target : ℕ) → slice_get old.progress.items target ≡ Some Unseen → Enters old new target → Follows old new (Some target)
follow_entered old new target e h = record {
  cursors = h.cursors;
  met = λ v f. elim (cases_eq v target) [
    | inl same ↦ absurd (unseen_on_path (slice_get new.progress.items v) (length old.path.items) f
        (rw (h.progress, same) (get-set_same old.progress.items target Unseen (OnPath (length old.path.items)) e)))
    | inr other ↦ sym (get-set_other old.progress.items target v (OnPath (length old.path.items)) other) ∙ rw h.progress at f
  ];
  few = rw h.active (omega (arith, length-append old.active.items (length old.path.items ∷ [])));
  followed = λ g place node walk top here edge. record {
    walk = rw (h.progress, h.cursors, h.path, h.starts, h.active, h.order)
        (walk_pushed g old.progress.items old.cursors.items old.path.items old.starts.items old.active.items old.order.items target walk e
        (λ j u f. leads_on g u node target (leads_top g old place node walk top here j u f) (leads_edge g node target (edge target refl))));
    stays = rw h.path (get_front old.path.items (target ∷ []) place node here);
    explored = λ t same. rw (← same_Some target t same, h.progress, h.path, h.starts) (inr (
      length old.path.items,
      get_last old.path.items target,
      λ s f l.
          (let m = slice_get_within old.path.items place node here in omega arith),
    ));
  };
}

pub follow_nowhere : (old : Search) → Follows old old None
follow_nowhere old = record {
  cursors = refl;
  met = λ v f. f;
  few = omega arith;
  followed = λ g place node walk top here edge. record { walk = walk; stays = here; explored = λ t same. absurd (none-some t same) };
}

pub follow_closed : (old : Search) (target c : ℕ) → slice_get old.progress.items target ≡ Some (Closed c) → Follows old old (Some target)
follow_closed old target c e = record {
  cursors = refl;
  met = λ v f. f;
  few = omega arith;
  followed = λ g place node walk top here edge. record { walk = walk; stays = here; explored = λ t same. rw (← same_Some target t same) (inl (c, e)) };
}

pub follow_cut : (old new : Search) (target m : ℕ) → slice_get old.progress.items target ≡ Some (OnPath m)
    → IsCutOffAt old.starts.items new.starts.items m → new.progress.items ≡ old.progress.items → new.cursors.items ≡ old.cursors.items
    → new.path.items ≡ old.path.items → new.active.items ≡ old.active.items → new.order.items ≡ old.order.items → Follows old new (Some target)
follow_cut old new target m e cut p c path active order = record {
  cursors = c;
  met = λ v f. rw p at f;
  few = rw active (omega arith);
  followed = λ g place node walk top here edge.
      let back = walk.going.on target m e in
      let below : (s : ℕ) → Has old.starts.items s → s ≤ place = λ s f. top_place old.active.items place walk.going.active_rises top s (walk.going.held s f) in
      record {
        walk = rw (p, c, path, active, order) (record {
          going = path_cut g old.progress.items old.cursors.items old.path.items old.starts.items new.starts.items old.active.items m place target node
              walk.going cut back here below (edge target refl);
          shut = walk.shut;
          listing = walk.listing;
        });
        stays = rw path here;
        explored = λ t same. rw (← same_Some target t same, p, path) (inr (m, back, λ s f l. (cut.kept s f).1));
      };
}

-- ---- a node is left

pub leave_only : (old new : Search) (top last place start : ℕ) → length old.active.items ≡ suc top → slice_get old.active.items top ≡ Some place
    → length old.starts.items ≡ suc last → slice_get old.starts.items last ≡ Some start → (start ≡ place → ⊥)
    → new.progress.items ≡ old.progress.items → new.cursors.items ≡ old.cursors.items → new.path.items ≡ old.path.items
    → new.starts.items ≡ old.starts.items → new.active.items ≡ take top old.active.items → new.order.items ≡ old.order.items → Leaves old new
leave_only old new top last place start n a m b other p c path starts active order = record {
  cursors = c;
  met = λ v f. rw p at f;
  fewer = rw active (omega (arith, length-take top old.active.items));
  left = λ g at_place walk is_top gone.
      let same_top : is_top.top ≡ top = (let s = is_top.count in omega arith) in
      let same : place ≡ at_place = same_Some place at_place (sym a ∙ rw same_top at is_top.stands) in
      rw (p, c, path, starts, active, order) (record {
        going = path_left g old.progress.items old.cursors.items old.path.items old.starts.items old.active.items top at_place walk.going n
            (rw same_top at is_top.stands)
            (no_start old.starts.items old.active.items top last at_place start walk.going.starts_rise walk.going.active_rises walk.going.held n
            (rw same_top at is_top.stands) m b (λ s. other (s ∙ sym same))) gone;
        shut = walk.shut;
        listing = walk.listing;
      });
}

pub leave_closed : (old mid new : Search) (top last place : ℕ) → length old.active.items ≡ suc top → slice_get old.active.items top ≡ Some place
    → length old.starts.items ≡ suc last → slice_get old.starts.items last ≡ Some place → mid.progress.items ≡ old.progress.items
    → mid.cursors.items ≡ old.cursors.items → mid.path.items ≡ old.path.items → mid.starts.items ≡ take last old.starts.items
    → mid.active.items ≡ take top old.active.items → mid.order.items ≡ old.order.items → ClosesPath mid new place → Leaves old new
leave_closed old mid new top last place n a m b p c path starts active order closes =
    let marked : IsMarked old.progress.items new.progress.items (drop place old.path.items) (length old.order.items) = rw (p, path, order) at closes.progress in
    record {
      cursors = closes.cursors ∙ c;
      met = λ v f. sym (marked.kept v (λ has. unseen_closed (slice_get new.progress.items v) (length old.order.items) f (marked.closed v has))) ∙ f;
      fewer = rw (closes.active, active) (omega (arith, length-take top old.active.items));
      left = λ g at_place walk is_top gone.
          let same_top : is_top.top ≡ top = (let s = is_top.count in omega arith) in
          let same : at_place ≡ place = same_Some at_place place (sym (rw same_top at is_top.stands) ∙ a) in
          let done : IsDone g old.progress.items old.cursors.items old.path.items old.starts.items old.active.items old.order.items top last place = record {
            walk = walk;
            active_count = n;
            active_last = a;
            start_count = m;
            start_last = b;
            gone = rw same at gone;
          } in
          rw (closes.cursors, c, closes.path, path, closes.starts, starts, closes.active, active, closes.order, order, path)
          (walk_closed g old.progress.items new.progress.items old.cursors.items old.path.items old.starts.items old.active.items old.order.items top last
          place done marked);
    }

-- ---- a step

edges_left-advanced : (g : Rows) (cursors : List ℕ) (u i : ℕ) (row : List (Option ℕ)) → slice_get g u ≡ Some row → slice_get cursors u ≡ Some i
    → i < length row → suc (edges_left g (set cursors u (i + 1))) ≡ edges_left g cursors
edges_left-advanced [] cursors u i row e c l = absurd (none-some row e)
edges_left-advanced (r ∷ g) [] u i row e c l = absurd (none-some i c)
edges_left-advanced (r ∷ g) (k ∷ cursors) zero i row e c l =
    let same : r ≡ row = same_Some r row e in
    let same_cursor : k ≡ i = same_Some k i c in
    rw (same, same_cursor) (omega arith)
edges_left-advanced (r ∷ g) (k ∷ cursors) (suc u) i row e c l =
    let rest = edges_left-advanced g cursors u i row e c l in omega arith

pub step_followed : (g : Rows) (old mid new : Search) (place node next : ℕ) (row : List (Option ℕ)) (edge : Option ℕ) → IsWalkOf g old
    → IsTop old.active.items place → slice_get old.path.items place ≡ Some node → slice_get old.cursors.items node ≡ Some next
    → slice_get g node ≡ Some row → slice_get row next ≡ Some edge → Follows old mid edge → new.progress.items ≡ mid.progress.items
    → new.cursors.items ≡ set mid.cursors.items node (next + 1) → new.path.items ≡ mid.path.items → new.starts.items ≡ mid.starts.items
    → new.active.items ≡ mid.active.items → new.order.items ≡ mid.order.items → Steps g old new
step_followed g old mid new place node next row edge walk top here cursor stands e h p c path starts active order =
    let f = h.followed g place node walk top here (λ t same. record { row = row; place = next; stands = stands; leads = e ∙ ap (λ x. Some x) same }) in
    let cursor_mid : slice_get mid.cursors.items node ≡ Some next = rw h.cursors cursor in
    record {
      walk = rw (p, c, path, starts, active, order) (record {
        going = path_advanced g mid.progress.items mid.cursors.items mid.path.items mid.starts.items mid.active.items place node next row f.walk.going
            f.stays cursor_mid stands
            (λ w a. f.explored w (same_Some edge (Some w) (sym e ∙ a)));
        shut = f.walk.shut;
        listing = f.walk.listing;
      });
      met = λ v a. h.met v (rw p at a);
      fewer =
          let less = edges_left-advanced g mid.cursors.items node next row stands cursor_mid (slice_get_within row next edge e) in
          let same : edges_left g mid.cursors.items ≡ edges_left g old.cursors.items = ap (edges_left g) h.cursors in
          let now : edges_left g new.cursors.items ≡ edges_left g (set mid.cursors.items node (next + 1)) = ap (edges_left g) c in
          let many : length new.active.items ≡ length mid.active.items = ap length active in
          let few = h.few in
          omega arith;
    }

pub step_left : (g : Rows) (old new : Search) (place node next : ℕ) (row : List (Option ℕ)) → IsWalkOf g old → IsTop old.active.items place
    → slice_get old.path.items place ≡ Some node → slice_get old.cursors.items node ≡ Some next → slice_get g node ≡ Some row → length row ≤ next
    → Leaves old new → Steps g old new
step_left g old new place node next row walk top here cursor stands l h = record {
  walk = h.left g place walk top (λ v i r a c s.
      let same : node ≡ v = same_Some node v (sym here ∙ a) in
      let same_row : row ≡ r = same_Some row r (sym stands ∙ rw (← same) at s) in
      let same_cursor : next ≡ i = same_Some next i (sym cursor ∙ rw (← same) at c) in
      rw (← same_row, ← same_cursor) l);
  met = h.met;
  fewer =
      let same : edges_left g new.cursors.items ≡ edges_left g old.cursors.items = ap (edges_left g) h.cursors in
      let fewer = h.fewer in
      omega arith;
}

-- ---- the walk from a root

pub record IsWalking (g : Rows) (first s : Search) (root : ℕ) : Type 0 where
  pub walk : IsWalkOf g s
  pub met : KeepsMet first s
  pub root_met : slice_get s.progress.items root ≡ Some Unseen → ⊥

-- with nothing active the path is empty
pub no_path : (g : Rows) (s : Search) → IsWalkOf g s → s.active.items ≡ [] → (k v : ℕ) → slice_get s.path.items k ≡ Some v → ⊥
no_path g s h e k v f =
    let some = slice_get_within s.path.items k v f in
    let start = h.going.first (omega arith) in
    let place = h.going.held 0 start in
    none-some 0 (rw e at place.1)

pub walking_begun : (g : Rows) (old new : Search) (root : ℕ) → IsIdle g old → slice_get old.progress.items root ≡ Some Unseen → Enters old new root
    → IsWalking g old new root
walking_begun g old new root h e enters =
    let f = follow_entered old new root e enters in
    record {
      walk = rw (enters.progress, enters.cursors, enters.path, enters.starts, enters.active, enters.order)
          (walk_pushed g old.progress.items old.cursors.items old.path.items old.starts.items old.active.items old.order.items root h.walk e
          (λ j u a. absurd (no_path g old h.walk h.idle j u a)));
      met = f.met;
      root_met = λ a. unseen_on_path (slice_get new.progress.items root) (length old.path.items) a
          (rw enters.progress (get-set_same old.progress.items root Unseen (OnPath (length old.path.items)) e));
    }

pub walking_more : (g : Rows) (first old new : Search) (root : ℕ) → IsWalking g first old root → Steps g old new → IsWalking g first new root
walking_more g first old new root h s = record {
  walk = s.walk;
  met = λ v e. h.met v (s.met v e);
  root_met = λ e. h.root_met (s.met root e);
}

-- ---- the whole search

pub record HasMet (g : Rows) (s : Search) (count : ℕ) : Type 0 where
  pub idle : IsIdle g s
  pub met : (v : ℕ) → v < count → slice_get s.progress.items v ≡ Some Unseen → ⊥

pub met_none : (g : Rows) (s : Search) → IsFresh s (length g) → HasMet g s 0
met_none g s h =
    let node : (v : ℕ) (x : Progress) → slice_get s.progress.items v ≡ Some x → x ≡ Unseen = λ v x e.
    same_Some x Unseen (sym e ∙ h.unseen v (omega (arith, slice_get_within s.progress.items v x e, h.progress_each))) in
    record {
      idle = record {
        walk = rw (h.path, h.starts, h.active, h.order) (record {
          going = record {
            nodes = h.progress_each;
            cursor_each = h.cursor_each;
            on = λ v k e. (let u = node v (OnPath k) e in cc);
            stands = λ k v e. absurd (none-some v e);
            fresh = λ v e. h.zero_each v (omega (arith, slice_get_within s.progress.items v Unseen e, h.progress_each));
            first = λ l. absurd (omega arith);
            starts_rise = λ i j x y l e f. absurd (none-some x e);
            active_rises = λ i j x y l e f. absurd (none-some x e);
            held = λ s f. f;
            within = λ k f. absurd (none-some k f.1);
            spent = λ k v i row e. absurd (none-some v e);
            forward = λ j k u v l e. absurd (none-some u e);
            back = λ j k u v l e. absurd (none-some u e);
            explored = λ k u i place w row e. absurd (none-some u e);
          };
          shut = record {
            edges = λ u w c e. (let x = node u (Closed c) e in cc);
            same = λ u w c e. (let x = node u (Closed c) e in cc);
            below = λ u c e. (let x = node u (Closed c) e in cc);
          };
          listing = record {
            listed = λ u c e. (let x = node u (Closed c) e in cc);
            closed = λ i u e. absurd (none-some u e);
            early = λ j w d u c e. absurd (none-some w e);
            first = λ u c e. (let x = node u (Closed c) e in cc);
            once = λ i j u e. absurd (none-some u e);
          };
        });
        idle = h.active;
      };
      met = λ v l. absurd (omega arith);
    }

pub met_more : (g : Rows) (old new : Search) (count : ℕ) → HasMet g old count → WalksFrom g old new count → HasMet g new (count + 1)
met_more g old new count h w = record {
  idle = w.idle;
  met = λ v l e. elim (cases_eq v count) [
    | inl same ↦ w.root_met (rw same at e)
    | inr other ↦ h.met v (omega arith) (w.met v e)
  ];
}

pub met_by : (g : Rows) (s : Search) (count : ℕ) → HasMet g s count → (slice_get s.progress.items count ≡ Some Unseen → ⊥) → HasMet g s (count + 1)
met_by g s count h seen = record {
  idle = h.idle;
  met = λ v l e. elim (cases_eq v count) [
    | inl same ↦ seen (rw same at e)
    | inr other ↦ h.met v (omega arith) e
  ];
}

pub met_all : (g : Rows) (s : Search) (count : ℕ) → HasMet g s count → length g ≤ count → IsSearched g s
met_all g s count h l = record {
  idle = h.idle;
  all = λ v e. h.met v (omega (arith, slice_get_within s.progress.items v Unseen e, h.idle.walk.going.nodes)) e;
}

-- ---- the node at which a search is that has something active

pub record IsAt (g : Rows) (s : Search) (place node : ℕ) : Type 0 where
  pub top : IsTop s.active.items place
  pub here : slice_get s.path.items place ≡ Some node
  pub known : node < length g
  pub some_start : 0 < length s.starts.items

pub place_read : (g : Rows) (s : Search) (last place : ℕ) → IsWalkOf g s → length s.active.items ≡ suc last → place ≡ get_or s.active.items last place
    → IsTop s.active.items place × (place < length s.path.items)
place_read g s last place walk n e =
    let here = slice_get_read s.active.items (length s.active.items) last place refl (omega arith) e in
    (record { top = last; count = n; stands = here }, walk.going.within place (last, here))

pub path_known : (g : Rows) (s : Search) (k v : ℕ) → IsWalkOf g s → slice_get s.path.items k ≡ Some v → v < length g
path_known g s k v walk e = rw (← walk.going.nodes) (slice_get_within s.progress.items v (OnPath k) (walk.going.stands k v e))

pub is_at : (g : Rows) (s : Search) (last place node : ℕ) → IsWalkOf g s → length s.active.items ≡ suc last → place ≡ get_or s.active.items last place
    → node ≡ get_or s.path.items place node → IsAt g s place node
is_at g s last place node walk n e f =
    let p = place_read g s last place walk n e in
    let here = slice_get_read s.path.items (length s.path.items) place node refl p.1 f in
    let start = walk.going.first (omega (arith, p.1)) in
    record {
      top = p.0;
      here = here;
      known = path_known g s place node walk here;
      some_start = omega (arith, slice_get_within s.starts.items start.0 0 start.1);
    }
