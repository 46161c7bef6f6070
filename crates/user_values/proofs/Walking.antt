-- The tables that are still to be used stay, as tables are made and dropped.
use Rattle.std.proofs.Common.{◌≡◌, ℕ, zero, suc, ◌+◌, ◌<◌, ◌≤◌, inl, inr, List, [], ◌∷◌, ◌++◌, length, take, set, Option, Some, None, get_or, slice_get, refl, sym, ap, ◌∙◌, arith, subst}
use Rattle.std.proofs.lemmas.Bool.{cases_eq}
use Rattle.std.proofs.lemmas.List.{length-set}
use Rattle.std.proofs.lemmas.Option.{same_Some, none-some, slice_get_within, slice_get-get_or}
use Rattle.ti_text.proofs.Lists.{item_at, get-set_same, get-set_other, push_cases}
use Rattle.ti_source.specs.declared.parsing.Rule.{Rule}
use Rattle.ti_source.specs.declared.parsing.Rule.TheVariants.{Leftmost}
use Rattle.base_components.specs.Graph.{Rows}
use Rattle.base_components.specs.Components.{AreComponents, IsClosingOrder}
use Rattle.user_values.specs.Tables.{TableSeen, HasUserTableBy}
use Rattle.user_values.specs.Uses.{uses_of}
use Rattle.user_values.specs.Walking.{TablesSeen, IsOrderOf, MakesNext, IsMadeLast, once_made}
use Rattle.user_values.specs.inside.Walking.{NotesUses, AreLast, DropsUnused, AreKept, IsLatest}
use Rattle.user_values.proofs.Ordering.{graph_length, used_before}

-- an element that was read by its place is there
pub found_in : {X : Type 0} (xs : List X) (i : ℕ) (x : X) → x ≡ get_or xs i x → i < length xs → slice_get xs i ≡ Some x
found_in xs i x e l = slice_get-get_or xs i x l ∙ ap (λ y. Some y) (sym e)

pub found_at : (xs ys : List ℕ) (i x : ℕ) → ys ≡ xs → x ≡ get_or ys i x → i < length ys → slice_get xs i ≡ Some x
found_at xs ys i x same e l = ap (λ zs. slice_get zs i) (sym same) ∙ found_in ys i x e l

-- what was made next is what was made last
pub made_last : (old : TablesSeen) (at : Option ℕ) (new : TablesSeen) (here : ℕ) → MakesNext old at new → at ≡ Some here → IsMadeLast new here
made_last old at new here m e =
    let is = m.is ∙ ap (once_made old) e in
    record {
      before = old.made;
      one_more = ap (λ (s : TablesSeen). s.made) is;
      here = ap (λ (s : TablesSeen). slice_get s.order old.made) is ∙ sym m.next ∙ e;
    }

-- the order of closing has each position of the source
pub order_of : (texts : List (List ℕ)) (component_of order : List ℕ) → AreComponents (uses_of texts) component_of
    → IsClosingOrder (uses_of texts) component_of order → IsOrderOf texts order
order_of texts component_of order comps c =
    let n = graph_length texts in
    record {
      listed = λ at l. c.listed at (omega arith);
      below = λ i x e. let b = c.nodes i x e in omega arith;
      once = c.once;
      after_used = λ i at used text o t some edge. used_before Leftmost texts component_of order i at used text comps c o t some edge;
    }

pub none_kept : (rule : Rule) (texts : List (List ℕ)) (order last : List ℕ) (tables : List (Option TableSeen)) → length tables ≡ length texts
    → AreKept rule texts order last tables 0
none_kept rule texts order last tables n = record { as_many = n; done = λ j node l text table m. absurd (omega arith) }

earlier : (order : List ℕ) (end node j other : ℕ) → slice_get order end ≡ Some node → slice_get order j ≡ Some other → (other ≡ node → ⊥) → j < end + 1
    → j < end
earlier order end node j other o e apart m =
    elim (cases_eq j end) [
      | inl same ↦ absurd (apart (same_Some other node (sym e ∙ (ap (slice_get order) same ∙ o))))
      | inr other_place ↦ omega arith
    ]

module _ (rule : Rule) (texts : List (List ℕ)) (order last : List ℕ) (old dropped : List (Option TableSeen)) (made at l : ℕ) (table : Option TableSeen) where
  -- the tables after one more is made, of a block that is to be used
  pub used_kept : AreKept rule texts order last old made → DropsUnused last (made + 1) old dropped → slice_get order made ≡ Some at → slice_get last at ≡ Some l
      → at < length texts → ((text : List ℕ) → slice_get texts at ≡ Some text → HasUserTableBy rule texts text table)
      → AreKept rule texts order last (set dropped at table) (made + 1)
  used_kept h d o e w right = record {
    as_many = length-set dropped at table ∙ d.as_many ∙ h.as_many;
    done = λ j node k text other m oj ek needed t s. elim (cases_eq node at) [
      | inl same ↦
          let within : at < length dropped = omega (arith, d.as_many, h.as_many) in
          let was = item_at dropped at within in
          let here : slice_get (set dropped at table) node ≡ Some table = rw same (get-set_same dropped at was.0 table was.1) in
          subst (HasUserTableBy rule texts text) (same_Some table other (sym here ∙ s)) (right text (rw (← same) t))
      | inr apart ↦
          h.done j node k text other (earlier order made at j node o oj apart m) oj ek (omega arith) t
          (sym (d.kept node k ek needed) ∙ sym (get-set_other dropped at node table apart) ∙ s)
    ];
  }

  -- the same of one that is not
  pub unused_kept : AreKept rule texts order last old made → DropsUnused last (made + 1) old dropped → slice_get order made ≡ Some at → slice_get last at ≡ Some l
      → l < made + 1 → AreKept rule texts order last dropped (made + 1)
  unused_kept h d o e past = record {
    as_many = d.as_many ∙ h.as_many;
    done = λ j node k text other m oj ek needed t s. elim (cases_eq node at) [
      | inl same ↦ let equal : k ≡ l = same_Some k l (sym ek ∙ ap (slice_get last) same ∙ e) in absurd (omega (arith, equal))
      | inr apart ↦
          h.done j node k text other (earlier order made at j node o oj apart m) oj ek (omega arith) t (sym (d.kept node k ek needed) ∙ s)
    ];
  }

  -- then it is the latest
  pub latest_made : slice_get order made ≡ Some at → ((text : List ℕ) → slice_get texts at ≡ Some text → HasUserTableBy rule texts text table)
      → IsLatest rule texts order last table (made + 1)
  latest_made o right = λ before node k text m oj ek needed t.
      let place : made ≡ before = omega (arith, m) in
      let same : at ≡ node = same_Some at node (sym o ∙ ap (slice_get order) place ∙ oj) in
      right text (ap (slice_get texts) same ∙ t)

  -- else there is none
  pub latest_used : (latest : Option TableSeen) → slice_get order made ≡ Some at → slice_get last at ≡ Some l → made + 1 ≤ l
      → IsLatest rule texts order last latest (made + 1)
  latest_used latest o e needed = λ before node k text m oj ek past t.
      let place : made ≡ before = omega (arith, m) in
      let same : at ≡ node = same_Some at node (sym o ∙ ap (slice_get order) place ∙ oj) in
      let equal : l ≡ k = same_Some l k (sym e ∙ ap (slice_get last) same ∙ ek) in
      absurd (omega (arith, equal))

-- ---- places are noted

pub nothing_noted : (place : ℕ) (last : List ℕ) → NotesUses [] place last last
nothing_noted place last = record { as_many = refl; noted = λ k to e. absurd (none-some (Some to) e); others = λ to l e. inl e }

pub nowhere_noted : (row : List (Option ℕ)) (place : ℕ) (old new : List ℕ) → NotesUses row place old new → NotesUses (row ++ None ∷ []) place old new
nowhere_noted row place old new n = record {
  as_many = n.as_many;
  noted = λ k to e. elim (push_cases row None k (Some to) e) [ inl here ↦ n.noted k to here | inr there ↦ absurd (none-some to (sym there.1)) ];
  others = n.others;
}

pub use_noted : (row : List (Option ℕ)) (place : ℕ) (old new : List ℕ) (to : ℕ) → NotesUses row place old new → to < length new
    → NotesUses (row ++ Some to ∷ []) place old (set new to place)
use_noted row place old new to n within = record {
  as_many = length-set new to place ∙ n.as_many;
  noted = λ k other e. elim (push_cases row (Some to) k (Some other) e) [
    | inl here ↦ elim (cases_eq other to) [
      | inl same ↦ rw same at_place
      | inr apart ↦ get-set_other new to other place apart ∙ n.noted k other here
    ]
    | inr there ↦ rw (same_Some other to there.1) at_place
  ];
  others = λ other l e. elim (cases_eq other to) [
    | inl same ↦ inr (same_Some l place (sym e ∙ rw same at_place))
    | inr apart ↦ n.others other l (sym (get-set_other new to other place apart) ∙ e)
  ];
} where
  at_place : slice_get (set new to place) to ≡ Some place
  at_place = let was = item_at new to within in get-set_same new to was.0 place was.1

-- ---- tables are dropped

pub none_dropped : (last : List ℕ) (made : ℕ) (tables : List (Option TableSeen)) → DropsUnused last made tables tables
none_dropped last made tables = record { as_many = refl; kept = λ at l e needed. refl }

pub one_dropped : (last : List ℕ) (made : ℕ) (old new : List (Option TableSeen)) (at l : ℕ) → DropsUnused last made old new → slice_get last at ≡ Some l
    → l < made → DropsUnused last made old (set new at None)
one_dropped last made old new at l d e past = record {
  as_many = length-set new at None ∙ d.as_many;
  kept = λ other k ek needed. elim (cases_eq other at) [
    | inl same ↦ let equal : k ≡ l = same_Some k l (sym ek ∙ ap (slice_get last) same ∙ e) in absurd (omega (arith, equal))
    | inr apart ↦ get-set_other new at other None apart ∙ d.kept other k ek needed
  ];
}

-- ---- the last places

-- no place is noted before the first
pub none_last : (graph : Rows) (last : List ℕ) → length last ≡ length graph → AreLast graph [] last
none_last graph last n = record { as_many = n; past = λ j from to l e. absurd (none-some from e) }

-- one more block, whose row was noted
pub one_more_last : (graph : Rows) (order : List ℕ) (node : ℕ) (row : List (Option ℕ)) (at : ℕ) (old new : List ℕ) → AreLast graph order old
    → slice_get graph node ≡ Some row → length order ≡ at → NotesUses row at old new → AreLast graph (order ++ node ∷ []) new
one_more_last graph order node row at old new a stands whole n = record {
  as_many = n.as_many ∙ a.as_many;
  past = λ j from to l o edge e. elim (push_cases order node j from o) [
    | inl here ↦ elim (n.others to l e) [
      | inl before ↦ a.past j from to l here edge before
      | inr same ↦ let w = slice_get_within order j from here in omega (arith, same, whole, w)
    ]
    | inr there ↦
        let same : edge.row ≡ row = same_Some edge.row row (sym edge.stands ∙ ap (slice_get graph) there.1 ∙ stands) in
        let place : Some at ≡ Some l = sym (n.noted edge.place to (ap (λ r. slice_get r edge.place) (sym same) ∙ edge.leads)) ∙ e in
        omega (arith, there.0, same_Some at l place, whole)
  ];
}

pub taken : {X : Type 0} (xs : List X) (n : ℕ) → n < length xs → length (take n xs) ≡ n
taken [] n l = absurd (omega arith)
taken (x ∷ xs) zero l = refl
taken (x ∷ xs) (suc n) l = ap suc (taken xs n (omega arith))
