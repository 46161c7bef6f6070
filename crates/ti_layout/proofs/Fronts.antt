-- Two lists of entries made one: what is merged of their fronts.
use Rattle.std.proofs.Common.{◌≡◌, ℕ, ◌+◌, ◌<◌, Bool, true, false, cond, List, [], ◌∷◌, ◌++◌, length, get_or, take, drop, Option, Some, None, refl, sym, ap}
use Rattle.std.proofs.Common.{◌∙◌, subst, arith, inl, inr}
use Rattle.std.specs.List.{insert}
use Rattle.std.specs.Option.{option_or}
use Rattle.std.proofs.lemmas.Bool.{cases_lt, cases_Bool}
use Rattle.std.proofs.lemmas.List.{length-append, length-map, get_or_append_left, get_or_at, get_or_default, take_all, take_more, drop_all}
use Rattle.std.proofs.lemmas.Option.{none-some}
use Rattle.ti_caps.specs.Tables.{Capability, IsCapability, same_capability}
use Rattle.ti_caps.proofs.Same.{same_capability-true}
use Rattle.ti_layout.specs.declared.values.Value.{Value}
use Rattle.ti_layout.specs.inside.Values.{IsGapFor}
use Rattle.ti_layout.specs.Values.{Content, Mention, Agrees, IsSorted, contents, content_of, entries_of, rank_at, rank_of}
use Rattle.ti_layout.specs.inside.Merging.{IsPastBoth}
use Rattle.ti_layout.proofs.SortedEntries.{contents_nowhere, one_from_rank}
use Rattle.ti_layout.proofs.Searched.{nowhere, sorted-insert, rank_read}
use Rattle.ti_layout.proofs.Walked.{item_read}

-- ---- what entries one after another say

or-assoc : (a b c : Option Content) → option_or (option_or a b) c ≡ option_or a (option_or b c)
or-assoc None b c = refl
or-assoc (Some x) b c = refl

or-none : (a : Option Content) → option_or a None ≡ a
or-none None = refl
or-none (Some x) = refl

or_if : (b : Bool) (x : Content) (o p : Option Content) → option_or (cond b (Some x) o) p ≡ cond b (Some x) (option_or o p)
or_if true x o p = refl
or_if false x o p = refl

pub contents-append : (xs ys : List Mention) (c : Capability) → contents (xs ++ ys) c ≡ option_or (contents xs c) (contents ys c)
unfolding contents
contents-append [] ys c = refl
contents-append (x ∷ xs) ys c = rw (contents-append xs ys c) (sym (or_if (same_capability x.0 c) x.1 (contents xs c) (contents ys c)))

pub contents-none : (c : Capability) → contents [] c ≡ None
unfolding contents
contents-none c = refl

pub contents-one : (x : Mention) (c : Capability) → contents (x ∷ []) c ≡ cond (same_capability x.0 c) (Some x.1) None
unfolding contents
contents-one x c = refl

contents-front : (xs : List Mention) (i : ℕ) (x : Mention) (c : Capability) → i < length xs → get_or xs i x ≡ x
    → contents (take (i + 1) xs) c ≡ option_or (contents (take i xs) c) (contents (x ∷ []) c)
contents-front xs i x c within here =
    ap (λ t. contents t c) (take_more xs i x within ∙ ap (λ y. take i xs ++ y ∷ []) here) ∙ contents-append (take i xs) (x ∷ []) c

-- an entry says something only of its own capability
one-said : (x : Mention) (c : Capability) (v : Content) → contents (x ∷ []) c ≡ Some v → x.0 ≡ c
one-said x c v e = elim (cases_Bool (same_capability x.0 c)) [
  | inl same ↦ same_capability-true x.0 c same
  | inr other ↦ absurd (none-some v (sym (contents-one x c ∙ ap (λ b. cond b (Some x.1) None) other) ∙ e))
]

-- entries of one capability say something of the same capabilities
both-none : (x y : Mention) (c : Capability) → x.0 ≡ y.0 → contents (x ∷ []) c ≡ None → contents (y ∷ []) c ≡ None
both-none x y c same none = elim (cases_Bool (same_capability x.0 c)) [
  | inl t ↦ absurd (none-some x.1 (sym none ∙ contents-one x c ∙ ap (λ b. cond b (Some x.1) None) t))
  | inr f ↦ contents-one y c ∙ ap (λ b. cond b (Some y.1) None) (ap (λ d. same_capability d c) (sym same) ∙ f)
]

-- ---- one more entry after the others

insert-end : (xs : List Mention) (x : Mention) → insert xs (length xs) x ≡ xs ++ x ∷ []
insert-end xs x = ap (λ t. t ++ x ∷ drop (length xs) xs) (take_all (length xs) xs (omega arith)) ∙ ap (λ t. xs ++ x ∷ t) (drop_all (length xs) xs (omega arith))

abbrev pub AllBefore : List Mention → ℕ → Type 0
AllBefore es rank = (k : ℕ) → k < length es → rank_at es k < rank

gap_behind : (es : List Mention) (c : Capability) → AllBefore es (rank_of c) → IsGapFor es c (length es)
gap_behind es c before = record { in_range = omega arith; before = λ j lt. before j lt; after = λ j le lt. absurd (omega arith) }

pub sorted-push : (es : List Mention) (x : Mention) → IsSorted es → AllBefore es (rank_of x.0) → IsCapability x.0 → Agrees x.0 x.1 → IsSorted (es ++ x ∷ [])
sorted-push es x sorted before valid agrees =
    subst IsSorted (insert-end es x) (sorted-insert es x.0 x.1 (length es) sorted (gap_behind es x.0 before) valid agrees)

pub absent_behind : (es : List Mention) (c : Capability) → IsSorted es → AllBefore es (rank_of c) → contents es c ≡ None
absent_behind es c sorted before = contents_nowhere es c (nowhere es sorted c (length es) (gap_behind es c before))

pub rank-push : (es : List Mention) (x : Mention) (k rank : ℕ) → k < length (es ++ x ∷ []) → AllBefore es rank → rank_of x.0 < rank
    → rank_at (es ++ x ∷ []) k < rank
rank-push es x k rank within before last =
    let long = length-append es (x ∷ []) in
    let read = rank_read (es ++ x ∷ []) k x within in
    elim (cases_lt k (length es)) [
      | inl under ↦
          let front : rank_of (get_or (es ++ x ∷ []) k x).0 ≡ rank_of (get_or es k x).0 =
          ap (λ (e : Mention). rank_of e.0) (get_or_append_left es (x ∷ []) x k under) in
          let old = rank_read es k x under in
          let b = before k under in
          omega arith
      | inr at ↦
          let same : k ≡ length es = omega arith in
          let end : rank_of (get_or (es ++ x ∷ []) k x).0 ≡ rank_of x.0 =
          ap (λ (e : Mention). rank_of e.0) (ap (λ j. get_or (es ++ x ∷ []) j x) same ∙ get_or_at es x [] x (length es) refl) in
          omega arith
    ]

-- ---- the walk

pub record Merges (fs ss os : List Mention) (i j : ℕ) : Type 0 where
  pub sorted : IsSorted os
  pub said : (c : Capability) → contents os c ≡ option_or (contents (take i fs) c) (contents (take j ss) c)
  pub before_first : i < length fs → AllBefore os (rank_at fs i)
  pub before_second : j < length ss → AllBefore os (rank_at ss j)

pub merges_none : (fs ss : List Mention) → Merges fs ss [] 0 0
merges_none fs ss = record {
  sorted = record { rises = λ i j lt within. absurd (omega arith); agree = λ k d lt. absurd (omega arith) };
  said = λ c. contents-none c ∙ sym (ap (λ o. option_or o (contents [] c)) (contents-none c) ∙ contents-none c);
  before_first = λ lt k within. absurd (omega arith);
  before_second = λ lt k within. absurd (omega arith);
}

pub merges_all : (fs ss os : List Mention) (i j : ℕ) → Merges fs ss os i j → IsPastBoth fs i ss j → (c : Capability)
    → contents os c ≡ option_or (contents fs c) (contents ss c)
merges_all fs ss os i j m past c =
    m.said c ∙ ap (λ t. option_or (contents t c) (contents (take j ss) c)) (take_all i fs past.0)
    ∙ ap (λ t. option_or (contents fs c) (contents t c)) (take_all j ss past.1)

-- what comes of the fronts with one more entry
of_first : (a b x o : Option Content) → o ≡ option_or a b → ((v : Content) → x ≡ Some v → o ≡ None) → option_or o x ≡ option_or (option_or a x) b
of_first a b None o e alone = or-none o ∙ e ∙ ap (λ t. option_or t b) (sym (or-none a))
of_first None None (Some v) o e alone = ap (λ t. option_or t (Some v)) (alone v refl)
of_first None (Some w) (Some v) o e alone = absurd (none-some w (sym (alone v refl) ∙ e))
of_first (Some w) b (Some v) o e alone = absurd (none-some w (sym (alone v refl) ∙ e))

of_both : (a b x y o : Option Content) → o ≡ option_or a b → ((v : Content) → x ≡ Some v → o ≡ None) → (x ≡ None → y ≡ None)
    → option_or o x ≡ option_or (option_or a x) (option_or b y)
of_both a b None y o e alone none =
    or-none o ∙ e ∙ ap (λ t. option_or a t) (sym (ap (option_or b) (none refl) ∙ or-none b)) ∙ ap (λ t. option_or t (option_or b y)) (sym (or-none a))
of_both None None (Some v) y o e alone none = ap (λ t. option_or t (Some v)) (alone v refl)
of_both None (Some w) (Some v) y o e alone none = absurd (none-some w (sym (alone v refl) ∙ e))
of_both (Some w) b (Some v) y o e alone none = absurd (none-some w (sym (alone v refl) ∙ e))

module _ (fs ss os : List Mention) (i j : ℕ) (kept_f : IsSorted fs) (kept_s : IsSorted ss) (m : Merges fs ss os i j) (x : Mention) where
  -- nothing was said of a capability whose rank is still to come
  alone : AllBefore os (rank_of x.0) → (c : Capability) (v : Content) → contents (x ∷ []) c ≡ Some v → contents os c ≡ None
  alone before c v e = subst (λ d. contents os d ≡ None) (one-said x c v e) (absent_behind os x.0 m.sorted before)

  rises : (es : List Mention) (k : ℕ) → IsSorted es → k + 1 < length es → rank_at es k < rank_at es (k + 1)
  rises es k sorted within = sorted.rises k (k + 1) (omega arith) within

  module _ (within : i < length fs) (here : get_or fs i x ≡ x) where
    rank_here : rank_at fs i ≡ rank_of x.0
    rank_here = rank_read fs i x within ∙ ap (λ (e : Mention). rank_of e.0) here

    good : IsCapability x.0 × Agrees x.0 x.1
    good = subst (λ (e : Mention). IsCapability e.0 × Agrees e.0 e.1) here (kept_f.agree i x within)

    before : AllBefore os (rank_of x.0)
    before = subst (AllBefore os) rank_here (m.before_first within)

    pub takes_first : (j < length ss → rank_at fs i < rank_at ss j) → Merges fs ss (os ++ x ∷ []) (i + 1) j
    takes_first turn =
        let r = rank_here in
        record {
          sorted = sorted-push os x m.sorted before good.0 good.1;
          said = λ c. contents-append os (x ∷ []) c
              ∙ of_first (contents (take i fs) c) (contents (take j ss) c) (contents (x ∷ []) c) (contents os c) (m.said c) (alone before c)
              ∙ ap (λ t. option_or t (contents (take j ss) c)) (sym (contents-front fs i x c within here));
          before_first = λ lt k l.
              let up = rises fs i kept_f lt in
              rank-push os x k (rank_at fs (i + 1)) l (λ n ln. let b = before n ln in omega arith) (omega arith);
          before_second = λ lt k l. let t = turn lt in rank-push os x k (rank_at ss j) l (m.before_second lt) (omega arith);
        }

    pub takes_both : j < length ss → rank_at fs i ≡ rank_at ss j → Merges fs ss (os ++ x ∷ []) (i + 1) (j + 1)
    takes_both within_s same =
        let y : Mention = get_or ss j x in
        let here_s : get_or ss j y ≡ y = get_or_default ss j y x within_s in
        let r = rank_here in
        let rank_s : rank_at ss j ≡ rank_of y.0 = rank_read ss j y within_s ∙ ap (λ (e : Mention). rank_of e.0) here_s in
        let valid_s : IsCapability y.0 = subst (λ (e : Mention). IsCapability e.0) here_s (kept_s.agree j y within_s).0 in
        let one : x.0 ≡ y.0 = one_from_rank x.0 y.0 good.0 valid_s (omega arith) in
        record {
          sorted = sorted-push os x m.sorted before good.0 good.1;
          said = λ c. contents-append os (x ∷ []) c
              ∙ of_both (contents (take i fs) c) (contents (take j ss) c) (contents (x ∷ []) c) (contents (y ∷ []) c) (contents os c) (m.said c)
              (alone before c) (both-none x y c one)
              ∙ ap (λ t. option_or t (option_or (contents (take j ss) c) (contents (y ∷ []) c))) (sym (contents-front fs i x c within here))
              ∙ ap (λ t. option_or (contents (take (i + 1) fs) c) t) (sym (contents-front ss j y c within_s here_s));
          before_first = λ lt k l.
              let up = rises fs i kept_f lt in
              rank-push os x k (rank_at fs (i + 1)) l (λ n ln. let b = before n ln in omega arith) (omega arith);
          before_second = λ lt k l.
              let up = rises ss j kept_s lt in
              rank-push os x k (rank_at ss (j + 1)) l (λ n ln. let b = before n ln in omega arith) (omega arith);
        }

  pub takes_second : (within : j < length ss) → get_or ss j x ≡ x → (i < length fs → rank_at ss j < rank_at fs i) → Merges fs ss (os ++ x ∷ []) i (j + 1)
  takes_second within here turn =
      let rank_s : rank_at ss j ≡ rank_of x.0 = rank_read ss j x within ∙ ap (λ (e : Mention). rank_of e.0) here in
      let fits = subst (λ (e : Mention). IsCapability e.0 × Agrees e.0 e.1) here (kept_s.agree j x within) in
      let before_x : AllBefore os (rank_of x.0) = subst (AllBefore os) rank_s (m.before_second within) in
      record {
        sorted = sorted-push os x m.sorted before_x fits.0 fits.1;
        said = λ c. contents-append os (x ∷ []) c ∙ ap (λ o. option_or o (contents (x ∷ []) c)) (m.said c)
            ∙ or-assoc (contents (take i fs) c) (contents (take j ss) c) (contents (x ∷ []) c)
            ∙ ap (λ t. option_or (contents (take i fs) c) t) (sym (contents-front ss j x c within here));
        before_first = λ lt k l. let t = turn lt in rank-push os x k (rank_at fs i) l (m.before_first lt) (omega arith);
        before_second = λ lt k l.
            let up = rises ss j kept_s lt in
            rank-push os x k (rank_at ss (j + 1)) l (λ n ln. let b = before_x n ln in omega arith) (omega arith);
      }

-- ---- the entries of slices

pub rank_found : (xs : List (Capability × Value)) (k : ℕ) (x : Capability × Value) → k < length xs → x ≡ get_or xs k x → rank_at (entries_of xs) k ≡ rank_of x.0
rank_found xs k x within e =
    rank_read (entries_of xs) k (x.0, content_of x.1) (rw length-map within) ∙ ap (λ (y : Mention). rank_of y.0) (item_read xs k x within e)
