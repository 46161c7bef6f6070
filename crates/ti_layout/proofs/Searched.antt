-- Where a binary search ends among entries that are in order, and what an edit there leaves as it
-- was.
use Rattle.std.proofs.Common.{◌≡◌, ℕ, zero, suc, ◌+◌, ◌-◌, ◌<◌, ◌≤◌, List, [], ◌∷◌, map, length, get_or, take, drop, set, Option, Some, None, Result, Ok}
use Rattle.std.proofs.Common.{Err, IfOk, IfErr, refl, sym, ◌∙◌, ap, subst, inl, inr, arith, if◌then◌else◌, Less, Equal, Greater, length-set}
use Rattle.std.specs.List.{insert, remove}
use Rattle.std.specs.List.Sorted.{IsSearchInRange, IsBinarySearchResult, IsNonDecreasingBy}
use Rattle.std.specs.Ordering.{nat_cmp, ordering_index}
use Rattle.std.proofs.lemmas.Cmp.{ranked}
use Rattle.std.proofs.lemmas.Bool.{cases_lt}
use Rattle.std.proofs.lemmas.Bool.Decides.{nat_tests}
use Rattle.std.proofs.lemmas.List.{get_or-map, length-map, map-set}
use Rattle.std.proofs.Math.ListN.{get_or-map as read_map}
use Rattle.std.proofs.Math.Seq.{map-set_same}
use Rattle.std.proofs.lemmas.List.Edits.{length-insert, get_or-insert_below, get_or-insert_at, get_or-insert_above, length-remove, get_or-remove_below}
use Rattle.std.proofs.lemmas.List.Edits.{get_or-remove_above}
use Rattle.std.proofs.lemmas.List.Elements.{All-set, All-append, All-cons, All-take, All-drop}
use Rattle.ti_caps.specs.Tables.{Capability, IsCapability}
use Rattle.ti_layout.specs.declared.values.Value.{Value}
use Rattle.ti_layout.specs.declared.values.Value.TheVariants.{True}
use Rattle.ti_layout.specs.inside.Values.{IsAt, IsGapFor, SetsOnly}
use Rattle.ti_layout.specs.Values.{Content, content_true, Mention, Agrees, IsSorted, contents, content_of, entries_of, rank_at, rank_of}
use Rattle.ti_layout.proofs.SortedEntries.{Elsewhere, Nowhere, Says, one_from_rank, contents_here, contents_nowhere, says-set, says-insert, says-remove}
use Rattle.ti_layout.proofs.SortedEntries.{same_from_one, test_from_other}

-- the rank at an index is that of the capability there
pub rank_read : (es : List Mention) (i : ℕ) (e : Mention) → i < length es → rank_at es i ≡ rank_of (get_or es i e).0
rank_read es i e within = get_or-map (λ x. rank_of x.0) es i e 0 within

-- ---- where a search ends

module _ (xs : List (Capability × Value)) (sorted : IsSorted (entries_of xs)) (c : Capability) (valid : IsCapability c) where
  plain : (i : ℕ) (d : Capability × Value) → i < length xs → rank_at (entries_of xs) i ≡ rank_of (get_or xs i d).0
  plain i d within =
      let f : Capability × Value → Mention = λ e. (e.0, content_of e.1) in
      rank_read (entries_of xs) i (f d) (rw length-map within) ∙ ap (λ e. rank_of e.0) (get_or-map f xs i d (f d) within)

  comparisons_rise : IsNonDecreasingBy (λ e. ordering_index (nat_cmp (rank_of e.0) (rank_of c))) xs
  comparisons_rise i j d le within = elim (cases_lt i j) [
    | inl below ↦
        let up : rank_at (entries_of xs) i < rank_at (entries_of xs) j = sorted.rises i j below (rw length-map within) in
        let low : i < length xs = omega arith in
        let at_i = plain i d low in
        let at_j = plain j d within in
        grind (arith, nat_tests)
    | inr not_below ↦
        let one : i ≡ j = omega arith in
        let order_at : ℕ → ℕ = λ k. ordering_index (nat_cmp (rank_of (get_or xs k d).0) (rank_of c)) in
        subst (λ k. order_at i ≤ order_at k) one (omega arith)
  ]

  pub found_at : (i : ℕ) → i < length xs → ((d : Capability × Value) → nat_cmp (rank_of (get_or xs i d).0) (rank_of c) ≡ Equal) → IsAt (entries_of xs) c i
  found_at i within equal =
      let here : i < length (entries_of xs) = rw length-map within in
      record {
        in_range = here;
        is_here = λ e.
            let d : Capability × Value = (c, True) in
            let f : Capability × Value → Mention = λ x. (x.0, content_of x.1) in
            let read : get_or (entries_of xs) i e ≡ f (get_or xs i d) = get_or-map f xs i d e within in
            let one_rank : rank_of (get_or xs i d).0 ≡ rank_of c = ranked _ _ Equal (sym (equal d)) in
            one_from_rank _ c (sorted.agree i e here).0 valid (ap (λ x. rank_of x.0) read ∙ one_rank);
      }

  pub gap_at : (i : ℕ) → i ≤ length xs → IsBinarySearchResult (λ e. nat_cmp (rank_of e.0) (rank_of c)) xs (Err i) → IsGapFor (entries_of xs) c i
  gap_at i within parted =
      let parts = parted comparisons_rise in
      let d : Capability × Value = (c, True) in
      record {
        in_range = rw length-map within;
        before = λ j low. rw (plain j d (omega arith)) (ranked _ _ Less (sym (parts.0 j d (omega arith) low)));
        after = λ j high l. let l' : j < length xs = rw length-map at l in rw (plain j d l') (ranked _ _ Greater (sym (parts.1 j d high l')));
      }

  pub searched : (r : Result ℕ ℕ) (wanted : ℕ) → wanted ≡ rank_of c → IsSearchInRange r (length xs)
      → IsBinarySearchResult (λ e. nat_cmp (rank_of e.0) wanted) xs r
      → record { found : IfOk r (IsAt (entries_of xs) c); absent : IfErr r (IsGapFor (entries_of xs) c) }
  searched (Ok i) wanted is within equal =
      record { found = found_at i within (λ d. subst (λ n. nat_cmp (rank_of (get_or xs i d).0) n ≡ Equal) is (equal d)); absent = tt }
  searched (Err i) wanted is within parted =
      record { found = tt; absent = gap_at i within (subst (λ n. IsBinarySearchResult (λ e. nat_cmp (rank_of e.0) n) xs (Err i)) is parted) }

-- ---- what is at the index

module _ (es : List Mention) (sorted : IsSorted es) (c : Capability) where
  rank_here : (i : ℕ) → IsAt es c i → rank_at es i ≡ rank_of c
  rank_here i at = let e : Mention = (c, content_true) in rank_read es i e at.in_range ∙ ap rank_of (at.is_here e)

  pub elsewhere : (i : ℕ) → IsAt es c i → Elsewhere es c i
  elsewhere i at j e apart within same =
      let there : rank_at es j ≡ rank_of c = rank_read es j e within ∙ ap rank_of same in
      let here = rank_here i at in
      elim (cases_lt j i) [
        | inl below ↦ absurd (omega (arith, sorted.rises j i below at.in_range))
        | inr not_below ↦ let above : i < j = omega arith in absurd (omega (arith, sorted.rises i j above within))
      ]

  pub nowhere : (i : ℕ) → IsGapFor es c i → Nowhere es c
  nowhere i gap j e within same =
      let there : rank_at es j ≡ rank_of c = rank_read es j e within ∙ ap rank_of same in
      elim (cases_lt j i) [
        | inl below ↦ absurd (omega (arith, gap.before j below))
        | inr not_below ↦ absurd (omega (arith, gap.after j not_below within))
      ]

-- what is said of one capability and of the others
pub sets_only : (old new : List Mention) (c : Capability) (o : Option Content) → Says old new c o → SetsOnly old new c o
sets_only old new c o says = record {
  this_one = says c ∙ ap (λ b. if b then o else contents old c) (same_from_one c c refl);
  others = λ d other. says d ∙ ap (λ b. if b then o else contents old d) (test_from_other c d (λ e. other (sym e)));
}

-- ---- an edit of the entries, and of what they were made of

pub map-insert : {X Y : Type 0} (f : X → Y) (xs : List X) (i : ℕ) (x : X) → map f (insert xs i x) ≡ insert (map f xs) i (f x)
map-insert f xs zero x = refl
map-insert f [] (suc i) x = refl
map-insert f (y ∷ ys) (suc i) x = ap (λ t. f y ∷ t) (map-insert f ys i x)

pub map-remove : {X Y : Type 0} (f : X → Y) (xs : List X) (i : ℕ) → map f (remove xs i) ≡ remove (map f xs) i
map-remove f [] zero = refl
map-remove f [] (suc i) = refl
map-remove f (y ∷ ys) zero = refl
map-remove f (y ∷ ys) (suc i) = ap (λ t. f y ∷ t) (map-remove f ys i)

-- numbers that rise still rise after an edit that keeps the order
abbrev Rise : List ℕ → Type 0
Rise l = (i j : ℕ) → i < j → j < length l → get_or l i 0 < get_or l j 0

rise-insert : (l : List ℕ) (at n : ℕ) → Rise l → at ≤ length l → ((j : ℕ) → j < at → get_or l j 0 < n)
    → ((j : ℕ) → at ≤ j → j < length l → n < get_or l j 0) → Rise (insert l at n)
rise-insert l at n rises within before after i j lt in_range =
    let new = insert l at n in
    let length_new = length-insert l at n within in
    let below : (k : ℕ) → k < at → get_or new k 0 ≡ get_or l k 0 = λ k low. get_or-insert_below l at n 0 k low within in
    let here : (k : ℕ) → k ≡ at → get_or new k 0 ≡ n = λ k e. rw e (get_or-insert_at l at n 0 within) in
    let above : (k : ℕ) → at < k → get_or new k 0 ≡ get_or l (k - 1) 0 =
    λ k high. subst (λ q. get_or new q 0 ≡ get_or l (k - 1) 0) {x = k - 1 + 1} (omega arith) (get_or-insert_above l at n 0 (k - 1) (omega arith) within) in
    grind (arith, below i, here i, above i, below j, here j, above j, rises i j, rises i (j - 1), rises (i - 1) (j - 1), before i, after (j - 1))

rise-remove : (l : List ℕ) (at : ℕ) → Rise l → at < length l → Rise (remove l at)
rise-remove l at rises within i j lt in_range =
    let new = remove l at in
    let length_new = length-remove l at within in
    let below : (k : ℕ) → k < at → get_or new k 0 ≡ get_or l k 0 = λ k low. get_or-remove_below l at 0 k low within in
    let above : (k : ℕ) → at ≤ k → get_or new k 0 ≡ get_or l (k + 1) 0 = λ k high. get_or-remove_above l at 0 k high within in
    grind (arith, below i, above i, below j, above j, rises i j, rises i (j + 1), rises (i + 1) (j + 1))

abbrev IsGood : Mention → Type 0
IsGood e = IsCapability e.0 × Agrees e.0 e.1

pub sorted-set : (es : List Mention) (c : Capability) (v : Content) (i : ℕ) → IsSorted es → IsAt es c i → IsCapability c → Agrees c v
    → IsSorted (set es i (c, v))
sorted-set es c v i sorted at valid agrees =
    let f : Mention → ℕ = λ e. rank_of e.0 in
    let e : Mention = (c, v) in
    let same : map f (set es i e) ≡ map f es = map-set_same f es i e e (ap rank_of (sym (at.is_here e))) in
    record {
      rises = λ j k lt within. rw same (sorted.rises j k lt (rw length-set at within));
      agree = All-set IsGood es i e (valid, agrees) sorted.agree;
    }

pub sorted-insert : (es : List Mention) (c : Capability) (v : Content) (i : ℕ) → IsSorted es → IsGapFor es c i → IsCapability c → Agrees c v
    → IsSorted (insert es i (c, v))
sorted-insert es c v i sorted gap valid agrees =
    let f : Mention → ℕ = λ e. rank_of e.0 in
    let e : Mention = (c, v) in
    let same : map f (insert es i e) ≡ insert (map f es) i (f e) = map-insert f es i e in
    let long : length (map f es) ≡ length es = length-map es f in
    let risen = rise-insert (map f es) i (f e) (λ j k lt within. sorted.rises j k lt (omega arith)) (rw long gap.in_range) gap.before
    (λ j high within. gap.after j high (omega arith)) in
    record {
      rises = λ j k lt within. rw same (risen j k lt (rw (← same) (rw length-map within)));
      agree = All-append IsGood (take i es) (e ∷ drop i es) (All-take IsGood i es sorted.agree)
          (All-cons IsGood e (drop i es) (valid, agrees) (All-drop IsGood i es sorted.agree));
    }

pub sorted-remove : (es : List Mention) (i : ℕ) → IsSorted es → i < length es → IsSorted (remove es i)
sorted-remove es i sorted within =
    let f : Mention → ℕ = λ e. rank_of e.0 in
    let same : map f (remove es i) ≡ remove (map f es) i = map-remove f es i in
    let long : length (map f es) ≡ length es = length-map es f in
    let risen = rise-remove (map f es) i (λ j k lt l. sorted.rises j k lt (omega arith)) (rw long within) in
    record {
      rises = λ j k lt l. rw same (risen j k lt (rw (← same) (rw length-map l)));
      agree = All-append IsGood (take i es) (drop (suc i) es) (All-take IsGood i es sorted.agree) (All-drop IsGood (suc i) es sorted.agree);
    }

-- ---- where a search ends, of what the entries were made of

abbrev entry_of : Capability × Value → Mention
entry_of e = (e.0, content_of e.1)

module _ (xs : List (Capability × Value)) (sorted : IsSorted (entries_of xs)) (c : Capability) where
  pub content_here : (i : ℕ) (d : Capability × Value) → IsAt (entries_of xs) c i → Some (content_of (get_or xs i d).1) ≡ contents (entries_of xs) c
  content_here i d at =
      let read : get_or (entries_of xs) i (entry_of d) ≡ entry_of (get_or xs i d) = read_map entry_of xs i d in
      let says = contents_here (entries_of xs) c i (entry_of d) at.in_range (at.is_here (entry_of d)) (elsewhere (entries_of xs) sorted c i at) in
      sym (says ∙ ap (λ e. Some e.1) read)

  pub agrees_here : (i : ℕ) (d : Capability × Value) → IsAt (entries_of xs) c i → Agrees c (content_of (get_or xs i d).1)
  agrees_here i d at =
      let read : get_or (entries_of xs) i (entry_of d) ≡ entry_of (get_or xs i d) = read_map entry_of xs i d in
      let good = (sorted.agree i (entry_of d) at.in_range).1 in
      subst (λ e. Agrees c e.1) read (subst (λ x. Agrees x (get_or (entries_of xs) i (entry_of d)).1) (at.is_here (entry_of d)) good)

  module _ (i : ℕ) (v : Value) (valid : IsCapability c) (agrees : Agrees c (content_of v)) where
    written : entries_of (set xs i (c, v)) ≡ set (entries_of xs) i (c, content_of v)
    written = map-set entry_of xs i (c, v)

    placed : entries_of (insert xs i (c, v)) ≡ insert (entries_of xs) i (c, content_of v)
    placed = map-insert entry_of xs i (c, v)

    pub sorted-written : IsAt (entries_of xs) c i → IsSorted (entries_of (set xs i (c, v)))
    sorted-written at = subst IsSorted (sym written) (sorted-set (entries_of xs) c (content_of v) i sorted at valid agrees)

    pub sets-written : IsAt (entries_of xs) c i → SetsOnly (entries_of xs) (entries_of (set xs i (c, v))) c (Some (content_of v))
    sets-written at =
        let e : Mention = (c, content_of v) in
        subst (λ es. SetsOnly (entries_of xs) es c (Some (content_of v))) (sym written)
        (sets_only _ _ c _ (says-set (entries_of xs) c (content_of v) i e at.in_range (at.is_here e) (elsewhere (entries_of xs) sorted c i at)))

    pub sorted-placed : IsGapFor (entries_of xs) c i → IsSorted (entries_of (insert xs i (c, v)))
    sorted-placed gap = subst IsSorted (sym placed) (sorted-insert (entries_of xs) c (content_of v) i sorted gap valid agrees)

    pub sets-placed : IsGapFor (entries_of xs) c i → SetsOnly (entries_of xs) (entries_of (insert xs i (c, v))) c (Some (content_of v))
    sets-placed gap =
        subst (λ es. SetsOnly (entries_of xs) es c (Some (content_of v))) (sym placed)
        (sets_only _ _ c _ (says-insert (entries_of xs) c (content_of v) i (nowhere (entries_of xs) sorted c i gap)))

  module _ (i : ℕ) (at : IsAt (entries_of xs) c i) where
    taken : entries_of (remove xs i) ≡ remove (entries_of xs) i
    taken = map-remove entry_of xs i

    pub sorted-taken : IsSorted (entries_of (remove xs i))
    sorted-taken = subst IsSorted (sym taken) (sorted-remove (entries_of xs) i sorted at.in_range)

    pub sets-taken : SetsOnly (entries_of xs) (entries_of (remove xs i)) c None
    sets-taken =
        let e : Mention = (c, content_true) in
        subst (λ es. SetsOnly (entries_of xs) es c None) (sym taken)
        (sets_only _ _ c _ (says-remove (entries_of xs) c i e at.in_range (at.is_here e) (elsewhere (entries_of xs) sorted c i at)))

  -- a capability that is nowhere has nothing to take away
  pub sets-nothing : (i : ℕ) → IsGapFor (entries_of xs) c i → SetsOnly (entries_of xs) (entries_of xs) c None
  sets-nothing i gap = record { this_one = contents_nowhere (entries_of xs) c (nowhere (entries_of xs) sorted c i gap); others = λ d other. refl }
