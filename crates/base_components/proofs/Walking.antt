-- The steps of a path search, each over plain lists.
use Rattle.std.proofs.Common.{◌≡◌, ℕ, suc, ◌+◌, ◌<◌, ◌≤◌, inl, inr, List, [], ◌∷◌, ◌++◌, length, set, take, Option, Some, slice_get, sym, ◌∙◌, ap, arith}
use Rattle.std.proofs.Common.{length-set, length-append}
use Rattle.std.proofs.lemmas.Bool.{cases_lt, cases_eq}
use Rattle.std.proofs.lemmas.Option.{same_Some, slice_get_within}
use Rattle.base_components.specs.Graph.{Rows, HasEdge}
use Rattle.base_components.specs.Leading.{Leads}
use Rattle.ti_text.specs.Lists.{Has}
use Rattle.base_components.specs.inside.Search.{Rises, IsExplored, IsPath, AreGroups, IsOrderSoFar, IsWalk, IsCutOffAt}
use Rattle.base_components.specs.declared.search.Progress.{Progress}
use Rattle.base_components.specs.declared.search.Progress.TheVariants.{Unseen, OnPath, Closed}
use Rattle.ti_text.proofs.Lists.{get_front, get_last, push_cases, get-set_same, get-set_other, Has_front, Has_last, Has_push}
use Rattle.base_components.proofs.Rising.{Rises_push, Rises_take, rising_last, but_last, take_last_lacks}
use Rattle.base_components.proofs.Leading.{leads_here, leads_edge, leads_on}

-- ---- how far the search has come with a node is one thing

pub unseen_on_path : (o : Option Progress) (k : ℕ) → o ≡ Some Unseen → o ≡ Some (OnPath k) → ⊥
unseen_on_path o k e f = cc

pub unseen_closed : (o : Option Progress) (c : ℕ) → o ≡ Some Unseen → o ≡ Some (Closed c) → ⊥
unseen_closed o c e f = cc

pub on_path_closed : (o : Option Progress) (k c : ℕ) → o ≡ Some (OnPath k) → o ≡ Some (Closed c) → ⊥
on_path_closed o k c e f = cc

pub same_place : (o : Option Progress) (j k : ℕ) → o ≡ Some (OnPath j) → o ≡ Some (OnPath k) → j ≡ k
same_place o j k e f = cc

pub same_number : (o : Option Progress) (c d : ℕ) → o ≡ Some (Closed c) → o ≡ Some (Closed d) → c ≡ d
same_number o c d e f = cc

-- ---- what was closed is what is closed

abbrev pub SameClosed : List Progress → List Progress → Type 0
SameClosed old new = (v c : ℕ) → (slice_get old v ≡ Some (Closed c) → slice_get new v ≡ Some (Closed c))
    × (slice_get new v ≡ Some (Closed c) → slice_get old v ≡ Some (Closed c))

groups_kept : (g : Rows) (p q : List Progress) (n : ℕ) → SameClosed p q → AreGroups g p n → AreGroups g q n
groups_kept g p q n s h = record {
  edges = λ u w c e f. let t = h.edges u w c ((s u c).1 e) f in (t.0, (s w t.0).0 t.1, t.2);
  same = λ u w c e f. h.same u w c ((s u c).1 e) ((s w c).1 f);
  below = λ u c e. h.below u c ((s u c).1 e);
}

order_kept : (p q : List Progress) (order : List ℕ) → SameClosed p q → IsOrderSoFar p order → IsOrderSoFar q order
order_kept p q order s h = record {
  listed = λ u c e. h.listed u c ((s u c).1 e);
  closed = λ i u e. let t = h.closed i u e in (t.0, (s u t.0).0 t.1, t.2);
  early = λ j w d u c e f k. h.early j w d u c e ((s w d).1 f) ((s u c).1 k);
  first = λ u c e. let t = h.first u c ((s u c).1 e) in (t.0, t.1, (s t.0 c).0 t.2);
  once = h.once;
}

-- ---- a node is put at the end of the path

path_pushed : (g : Rows) (p : List Progress) (cursors path starts active : List ℕ) (v : ℕ) → IsPath g p cursors path starts active
    → slice_get p v ≡ Some Unseen → ((j u : ℕ) → slice_get path j ≡ Some u → Leads g u v)
    → IsPath g (set p v (OnPath (length path))) cursors (path ++ v ∷ []) (starts ++ length path ∷ []) (active ++ length path ∷ [])
path_pushed g p cursors path starts active v h e leads =
    let k = length path in
    let next : (j : ℕ) → Has active j → j < k = h.within in
    record {
      nodes = length-set p v (OnPath k) ∙ h.nodes;
      cursor_each = h.cursor_each;
      on = λ w j f. elim (cases_eq w v) [
        | inl same ↦
            let here : slice_get (set p v (OnPath k)) w ≡ Some (OnPath k) = rw same (get-set_same p v Unseen (OnPath k) e) in
            let place : k ≡ j = same_place (slice_get (set p v (OnPath k)) w) k j here f in
            rw (← place, same) (get_last path v)
        | inr other ↦ get_front path (v ∷ []) j w (h.on w j (sym (get-set_other p v w (OnPath k) other) ∙ f))
      ];
      stands = λ j w f. elim (push_cases path v j w f) [
        | inl old ↦
            let was = h.stands j w old in
            get-set_other p v w (OnPath k) (λ same. unseen_on_path (slice_get p v) j e (ap (slice_get p) (sym same) ∙ was)) ∙ was
        | inr last ↦ rw (last.1, last.0) (get-set_same p v Unseen (OnPath k) e)
      ];
      fresh = λ w f. elim (cases_eq w v) [
        | inl same ↦ absurd (unseen_on_path (slice_get (set p v (OnPath k)) w) k f (rw same (get-set_same p v Unseen (OnPath k) e)))
        | inr other ↦ h.fresh w (sym (get-set_other p v w (OnPath k) other) ∙ f)
      ];
      first = λ l. elim (cases_lt 0 k) [
        | inl some ↦ Has_front starts (k ∷ []) 0 (h.first some)
        | inr none ↦ let zero_here : k ≡ 0 = omega arith in rw zero_here (Has_last starts 0)
      ];
      starts_rise = Rises_push starts k h.starts_rise (λ s t. next s (h.held s t));
      active_rises = Rises_push active k h.active_rises next;
      held = λ s f. elim (Has_push starts k s f) [
        | inl old ↦ Has_front active (k ∷ []) s (h.held s old)
        | inr last ↦ rw last (Has_last active k)
      ];
      within = λ j f. elim (Has_push active k j f) [
        | inl old ↦ (let l = next j old in omega (arith, length-append path (v ∷ [])))
        | inr last ↦ omega (arith, length-append path (v ∷ []))
      ];
      spent = λ j w i row f lacks c r. elim (push_cases path v j w f) [
        | inl old ↦ h.spent j w i row old (λ has. lacks (Has_front active (k ∷ []) j has)) c r
        | inr last ↦ absurd (lacks (let same : j ≡ k = last.0 in rw same (Has_last active k)))
      ];
      forward = λ i j u w l a b. elim (push_cases path v j w b) [
        | inl late ↦ elim (push_cases path v i u a) [
          | inl early ↦ h.forward i j u w l early late
          | inr last ↦ (let m = slice_get_within path j w late in let s = last.0 in absurd (omega arith))
        ]
        | inr last ↦ elim (push_cases path v i u a) [
          | inl early ↦ let same : w ≡ v = last.1 in rw same (leads i u early)
          | inr also ↦ let same : w ≡ v = last.1 in let same_one : u ≡ v = also.1 in rw (same, same_one) (leads_here g v)
        ]
      ];
      back = λ i j u w l a b none. elim (push_cases path v j w b) [
        | inl late ↦ elim (push_cases path v i u a) [
          | inl early ↦ h.back i j u w l early late (λ s f. none s (Has_front starts (k ∷ []) s f))
          | inr last ↦ (let m = slice_get_within path j w late in let s = last.0 in absurd (omega arith))
        ]
        | inr last ↦ elim (push_cases path v i u a) [
          | inl early ↦
              let m = slice_get_within path i u early in
              let at_end : j ≡ k = last.0 in
              let past : j < k = none k (Has_last starts k) m in
              absurd (omega arith)
          | inr also ↦ let same : w ≡ v = last.1 in let same_one : u ≡ v = also.1 in rw (same, same_one) (leads_here g v)
        ]
      ];
      explored = λ j u i place w row a c l r f. elim (push_cases path v j u a) [
        | inl old ↦ elim (h.explored j u i place w row old c l r f) [
          | inl closed ↦
              inl (
                closed.0,
                get-set_other p v w (OnPath k) (λ same. unseen_closed (slice_get p v) closed.0 e (ap (slice_get p) (sym same) ∙ closed.1))
                    ∙ closed.1,
              )
          | inr on ↦ inr (
            on.0,
            get_front path (v ∷ []) on.0 w on.1,
            λ s t m. elim (Has_push starts k s t) [
              | inl before ↦ on.2 s before m
              | inr last ↦ (let n = slice_get_within path j u old in let q = last in absurd (omega arith))
            ],
          )
        ]
        | inr last ↦
            let same : u ≡ v = last.1 in
            let none : 0 ≡ i = same_Some 0 i (sym (h.fresh v e) ∙ (rw same at c)) in
            absurd (omega arith)
      ];
    }

pub walk_pushed : (g : Rows) (p : List Progress) (cursors path starts active order : List ℕ) (v : ℕ) → IsWalk g p cursors path starts active order
    → slice_get p v ≡ Some Unseen → ((j u : ℕ) → slice_get path j ≡ Some u → Leads g u v)
    → IsWalk g (set p v (OnPath (length path))) cursors (path ++ v ∷ []) (starts ++ length path ∷ []) (active ++ length path ∷ []) order
walk_pushed g p cursors path starts active order v h e leads =
    let q = set p v (OnPath (length path)) in
    let same : SameClosed p q = λ w c. (
      (λ f. get-set_other p v w (OnPath (length path)) (λ s. unseen_closed (slice_get p v) c e (ap (slice_get p) (sym s) ∙ f)) ∙ f),
      λ f. elim (cases_eq w v) [
        | inl s ↦ absurd (on_path_closed (slice_get q w) (length path) c (rw s (get-set_same p v Unseen (OnPath (length path)) e)) f)
        | inr other ↦ sym (get-set_other p v w (OnPath (length path)) other) ∙ f
      ],
    ) in
    record {
      going = path_pushed g p cursors path starts active v h.going e leads;
      shut = groups_kept g p q (length order) same h.shut;
      listing = order_kept p q order same h.listing;
    }

-- ---- starts are taken off, since an edge leads back

pub path_cut : (g : Rows) (p : List Progress) (cursors path starts new active : List ℕ) (m k y x : ℕ) → IsPath g p cursors path starts active
    → IsCutOffAt starts new m → slice_get path m ≡ Some y → slice_get path k ≡ Some x → ((s : ℕ) → Has starts s → s ≤ k) → HasEdge g x y
    → IsPath g p cursors path new active
path_cut g p cursors path starts new active m k y x h cut here from last edge = record {
  nodes = h.nodes;
  cursor_each = h.cursor_each;
  on = h.on;
  stands = h.stands;
  fresh = h.fresh;
  first = λ l. cut.left 0 (h.first l) (omega arith);
  starts_rise = cut.rises;
  active_rises = h.active_rises;
  held = λ s f. h.held s (cut.kept s f).0;
  within = h.within;
  spent = h.spent;
  forward = h.forward;
  back = λ i j u w l a b none. elim (cases_lt m j) [
    | inr near ↦ h.back i j u w l a b (λ s f n. elim (cases_lt m s) [
      | inl above ↦ omega arith
      | inr below ↦ none s (cut.left s f below) n
    ])
    | inl far ↦
        let to_top : Leads g w x = elim (cases_lt k j) [
          | inl up ↦ h.back k j x w (omega arith) from b (λ s f n. (let t = last s f in absurd (omega arith)))
          | inr down ↦ h.forward j k w x down b from
        ] in
        let to_start : Leads g y u = elim (cases_lt m i) [
          | inl up ↦ h.forward m i y u (omega arith) here a
          | inr down ↦ h.back i m u y down a here (λ s f n. elim (cases_lt m s) [
            | inl above ↦ above
            | inr below ↦ (let t = none s (cut.left s f below) n in absurd (omega arith))
          ])
        ] in
        leads_on g w x u to_top (leads_on g x y u (leads_edge g x y edge) to_start)
  ];
  explored = λ j u i place w row a c l r f. elim (h.explored j u i place w row a c l r f) [
    | inl closed ↦ inl closed
    | inr on ↦ inr (on.0, on.1, λ s t. on.2 s (cut.kept s t).0)
  ];
}

-- ---- one more edge was gone through

pub path_advanced : (g : Rows) (p : List Progress) (cursors path starts active : List ℕ) (k u i : ℕ) (row : List (Option ℕ))
    → IsPath g p cursors path starts active → slice_get path k ≡ Some u → slice_get cursors u ≡ Some i → slice_get g u ≡ Some row
    → ((w : ℕ) → slice_get row i ≡ Some (Some w) → IsExplored p path starts k w) → IsPath g p (set cursors u (i + 1)) path starts active
path_advanced g p cursors path starts active k u i row h here cursor stands done = record {
  nodes = h.nodes;
  cursor_each = length-set cursors u (i + 1) ∙ h.cursor_each;
  on = h.on;
  stands = h.stands;
  fresh = λ v e. get-set_other cursors u v (i + 1) (λ same. unseen_on_path (slice_get p v) k e (rw same (h.stands k u here))) ∙ h.fresh v e;
  first = h.first;
  starts_rise = h.starts_rise;
  active_rises = h.active_rises;
  held = h.held;
  within = h.within;
  spent = λ j v n r a lacks c s. elim (cases_eq v u) [
    | inl same ↦
        let new : slice_get (set cursors u (i + 1)) u ≡ Some (i + 1) = get-set_same cursors u i (i + 1) cursor in
        let now : i + 1 ≡ n = same_Some (i + 1) n (sym new ∙ (rw same at c)) in
        let old = h.spent j v i r a lacks (rw same cursor) s in
        omega arith
    | inr other ↦ h.spent j v n r a lacks (sym (get-set_other cursors u v (i + 1) other) ∙ c) s
  ];
  forward = h.forward;
  back = h.back;
  explored = λ j v n place w r a c l s f. elim (cases_eq v u) [
    | inl same ↦
        let new : slice_get (set cursors u (i + 1)) u ≡ Some (i + 1) = get-set_same cursors u i (i + 1) cursor in
        let now : i + 1 ≡ n = same_Some (i + 1) n (sym new ∙ (rw same at c)) in
        let same_row : row ≡ r = same_Some row r (sym stands ∙ (rw same at s)) in
        let same_spot : j ≡ k = same_place (slice_get p u) j k (h.stands j u (rw same at a)) (h.stands k u here) in
        elim (cases_lt place i) [
          | inl before ↦ h.explored j v i place w r a (rw same cursor) before s f
          | inr at_hand ↦
              let spot : place ≡ i = omega arith in
              rw same_spot (done w (rw (same_row, ← spot) f))
        ]
    | inr other ↦ h.explored j v n place w r a (sym (get-set_other cursors u v (i + 1) other) ∙ c) l s f
  ];
}

-- ---- the last active place is left, and no component starts there

pub path_left : (g : Rows) (p : List Progress) (cursors path starts active : List ℕ) (top k : ℕ) → IsPath g p cursors path starts active
    → length active ≡ suc top → slice_get active top ≡ Some k → (Has starts k → ⊥)
    → ((v i : ℕ) (row : List (Option ℕ)) → slice_get path k ≡ Some v → slice_get cursors v ≡ Some i → slice_get g v ≡ Some row → length row ≤ i)
    → IsPath g p cursors path starts (take top active)
path_left g p cursors path starts active top k h n e no_start gone = record {
  nodes = h.nodes;
  cursor_each = h.cursor_each;
  on = h.on;
  stands = h.stands;
  fresh = h.fresh;
  first = h.first;
  starts_rise = h.starts_rise;
  active_rises = Rises_take top active h.active_rises;
  held = λ s f. elim (but_last active top k s n e (h.held s f)) [
    | inl there ↦ there
    | inr same ↦ absurd (no_start (rw same at f))
  ];
  within = λ j f. h.within j (take_last_lacks active top k j h.active_rises e f).0;
  spent = λ j v i row a lacks c r. elim (cases_eq j k) [
    | inl same ↦ gone v i row (rw same at a) c r
    | inr other ↦ h.spent j v i row a (λ has. elim (but_last active top k j n e has) [ inl there ↦ lacks there | inr same ↦ other same ]) c r
  ];
  forward = h.forward;
  back = h.back;
  explored = h.explored;
}

-- the greatest start is not at the last active place, so none is
pub no_start : (starts active : List ℕ) (top last k s : ℕ) → Rises starts → Rises active → ((x : ℕ) → Has starts x → Has active x) → length active ≡ suc top
    → slice_get active top ≡ Some k → length starts ≡ suc last → slice_get starts last ≡ Some s → (s ≡ k → ⊥) → Has starts k → ⊥
no_start starts active top last k s hs ha held n e m f other has =
    let below = rising_last starts last s k hs m f has in
    let above = rising_last active top k s ha n e (held s (last, f)) in
    other (omega arith)
