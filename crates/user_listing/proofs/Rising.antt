-- The user-defined names of a kind rise.
use Rattle.std.proofs.Common.{◌≡◌, ℕ, suc, ◌<◌, Bool, true, false, ◌||◌, ◌&&◌, ◌==◌, cond, List, [], ◌∷◌, ◌++◌, length, get_or, Some, refl, sym, ap, subst}
use Rattle.std.proofs.Common.{◌∙◌, arith}
use Rattle.std.specs.Prelude.{IsTrue, nat_le}
use Rattle.std.specs.List.{AllByRecursion}
use Rattle.std.specs.List.Sorted.{IsStrictlySortedBy}
use Rattle.std.specs.Ordering.{is_lt, nat_cmp, ordering_reverse}
use Rattle.std.specs.Cmp.Lexicographic.{nat_list_cmp_total, slice_cmp}
use Rattle.std.specs.declared.cmp.Ordering.{Ordering}
use Rattle.std.specs.declared.cmp.Ordering.TheVariants.{Less, Equal, Greater}
use Rattle.std.proofs.lemmas.Bool.Decides.{nat_tests}
use Rattle.ti_caps.specs.declared.capability.Kind.{Kind}
use Rattle.ti_caps.specs.declared.capability.Kind.TheVariants.{Flag, Number, Text}
use Rattle.ti_layout.specs.Values.{Content, content_true, content_number, content_text, content_cancelled}
use Rattle.user_extension.specs.UserDefined.{Row, comes_before, kind_rank}
use Rattle.user_extension.specs.Laws.{as_read}
use Rattle.user_listing.specs.Names.{is_of_kind, names_of_both, names_of_kind}
use Rattle.user_listing.proofs.Rows.{both-less, both-equal, both-greater}
use Rattle.user_listing.specs.Laws.{NamesOfBothRise, NamesOfEntriesRise}

abbrev rank_of : Kind → ℕ
rank_of Flag = 0
rank_of Number = 1
rank_of Text = 2

ranked : (kind : Kind) (x : Content) → is_of_kind kind (Some x) ≡ true → kind_rank x ≡ rank_of kind
ranked Flag content_true e = refl
ranked Flag (content_number n) e = cc
ranked Flag (content_text t) e = cc
ranked Flag content_cancelled e = cc
ranked Number content_true e = cc
ranked Number (content_number n) e = refl
ranked Number (content_text t) e = cc
ranked Number content_cancelled e = cc
ranked Text content_true e = cc
ranked Text (content_number n) e = cc
ranked Text (content_text t) e = refl
ranked Text content_cancelled e = cc

less : (o : Ordering) → IsTrue (is_lt o) → o ≡ Less
less Less e = refl
less Equal e = cc
less Greater e = cc

before_same : (r s : ℕ) (b : Bool) → r ≡ s → IsTrue (nat_le (suc r) s || (r == s && b)) → IsTrue b
before_same r s true e h = refl
before_same r s false e h = grind (arith, nat_tests)

-- of two rows of a kind the name of the first one is less
name-less : (kind : Kind) (u v : Row) → is_of_kind kind (Some u.1) ≡ true → is_of_kind kind (Some v.1) ≡ true → IsTrue (comes_before u v)
    → slice_cmp nat_cmp u.0 v.0 ≡ Less
name-less kind u v one other h =
    less (slice_cmp nat_cmp u.0 v.0) (before_same (kind_rank u.1) (kind_rank v.1) (is_lt (slice_cmp nat_cmp u.0 v.0))
    (ranked kind u.1 one ∙ sym (ranked kind v.1 other)) h)

-- rows that come after one
abbrev AreAfter : Row → List Row → Type 0
AreAfter u vs = AllByRecursion (λ (v : Row). IsTrue (comes_before u v)) vs

after-some : (u : Row) (vs : List Row) → ((k : ℕ) (d : Row) → k < length vs → IsTrue (comes_before u (get_or vs k d))) → AreAfter u vs
after-some u [] all = tt
after-some u (v ∷ vs) all = (all 0 v (omega arith), after-some u vs (λ k d lt. all (suc k) d (omega (arith, lt))))

add-name : (kind : Kind) (u v : Row) (names : List (List ℕ)) (b : Bool) → is_of_kind kind (Some v.1) ≡ b → is_of_kind kind (Some u.1) ≡ true
    → IsTrue (comes_before u v)
    → AllByRecursion (λ (m : List ℕ). slice_cmp nat_cmp u.0 m ≡ Less) names
    → AllByRecursion (λ (m : List ℕ). slice_cmp nat_cmp u.0 m ≡ Less) (cond b (v.0 ∷ []) [] ++ names)
add-name kind u v names true other one h all = (name-less kind u v one other h, all)
add-name kind u v names false other one h all = all

names-after : (kind : Kind) (u : Row) (vs : List Row) → is_of_kind kind (Some u.1) ≡ true → AreAfter u vs
    → AllByRecursion (λ (m : List ℕ). slice_cmp nat_cmp u.0 m ≡ Less) (names_of_kind kind (as_read vs))
names-after kind u [] one all = tt
names-after kind u (v ∷ vs) one all =
    add-name kind u v (names_of_kind kind (as_read vs)) (is_of_kind kind (Some v.1)) refl one all.0 (names-after kind u vs one all.1)

add-row : (kind : Kind) (u : Row) (vs : List Row) (b : Bool) → is_of_kind kind (Some u.1) ≡ b → AreAfter u vs
    → IsStrictlySortedBy (slice_cmp nat_cmp) (names_of_kind kind (as_read vs))
    → IsStrictlySortedBy (slice_cmp nat_cmp) (cond b (u.0 ∷ []) [] ++ names_of_kind kind (as_read vs))
unfolding IsStrictlySortedBy
add-row kind u vs true one all rise = (names-after kind u vs one all, rise)
add-row kind u vs false one all rise = rise

rows-rise : (kind : Kind) (rows : List Row) → ((i j : ℕ) (d : Row) → i < j → j < length rows → IsTrue (comes_before (get_or rows i d) (get_or rows j d)))
    → IsStrictlySortedBy (slice_cmp nat_cmp) (names_of_kind kind (as_read rows))
unfolding IsStrictlySortedBy
rows-rise kind [] rise = tt
rows-rise kind (u ∷ us) rise =
    add-row kind u us (is_of_kind kind (Some u.1)) refl (after-some u us (λ k d lt. rise 0 (suc k) d (omega arith) (omega (arith, lt))))
    (rows-rise kind us (λ i j d lt within. rise (suc i) (suc j) d (omega (arith, lt)) (omega (arith, within))))

pub names-rise : NamesOfEntriesRise
names-rise rows kind are = rows-rise kind rows are.rise

-- ---- the names of two lists

-- names after one
abbrev Below : List ℕ → List (List ℕ) → Type 0
Below z names = AllByRecursion (λ (m : List ℕ). slice_cmp nat_cmp z m ≡ Less) names

below-by : (z x v : List ℕ) (xs vs : List (List ℕ)) (o : Ordering) → slice_cmp nat_cmp x v ≡ o → slice_cmp nat_cmp z x ≡ Less → slice_cmp nat_cmp z v ≡ Less
    → Below z (names_of_both xs (v ∷ vs)) → Below z (names_of_both xs vs) → Below z (names_of_both (x ∷ xs) vs) → Below z (names_of_both (x ∷ xs) (v ∷ vs))
below-by z x v xs vs Less e one other less equal greater = subst (Below z) (sym (both-less x v xs vs e)) (one, less)
below-by z x v xs vs Equal e one other less equal greater = subst (Below z) (sym (both-equal x v xs vs e)) (one, equal)
below-by z x v xs vs Greater e one other less equal greater = subst (Below z) (sym (both-greater x v xs vs e)) (other, greater)

below-at : (z x : List ℕ) (xs : List (List ℕ)) → Below z (x ∷ xs) → ((ys : List (List ℕ)) → Below z ys → Below z (names_of_both xs ys))
    → (vs : List (List ℕ)) → Below z vs → Below z (names_of_both (x ∷ xs) vs)
below-at z x xs one on [] other = one
below-at z x xs one on (v ∷ vs) other =
    below-by z x v xs vs (slice_cmp nat_cmp x v) refl one.0 other.0 (on (v ∷ vs) other) (on vs other.1) (below-at z x xs one on vs other.1)

both-below : (z : List ℕ) (xs ys : List (List ℕ)) → Below z xs → Below z ys → Below z (names_of_both xs ys)
both-below z [] ys one other = other
both-below z (x ∷ xs) ys one other = below-at z x xs one (λ vs below. both-below z xs vs one.1 below) ys other

below-less : (x v : List ℕ) (vs : List (List ℕ)) → slice_cmp nat_cmp x v ≡ Less → Below v vs → Below x vs
below-less x v [] e all = tt
below-less x v (m ∷ ms) e all = (nat_list_cmp_total.trans x v m e all.0, below-less x v ms e all.1)

below-equal : (x v : List ℕ) (vs : List (List ℕ)) → slice_cmp nat_cmp x v ≡ Equal → Below v vs → Below x vs
below-equal x v [] e all = tt
below-equal x v (m ∷ ms) e all = (nat_list_cmp_total.congr x v m e ∙ all.0, below-equal x v ms e all.1)

turned : (x v : List ℕ) → slice_cmp nat_cmp x v ≡ Greater → slice_cmp nat_cmp v x ≡ Less
turned x v e = nat_list_cmp_total.antisymm v x ∙ ap ordering_reverse e

abbrev Rises : List (List ℕ) → Type 0
Rises names = IsStrictlySortedBy (slice_cmp nat_cmp) names

rise-by : (x v : List ℕ) (xs vs : List (List ℕ)) (o : Ordering) → slice_cmp nat_cmp x v ≡ o → Rises (x ∷ xs) → Rises (v ∷ vs)
    → Rises (names_of_both xs (v ∷ vs)) → Rises (names_of_both xs vs) → Rises (names_of_both (x ∷ xs) vs) → Rises (names_of_both (x ∷ xs) (v ∷ vs))
unfolding IsStrictlySortedBy
rise-by x v xs vs Less e one other less equal greater =
    subst Rises (sym (both-less x v xs vs e)) (both-below x xs (v ∷ vs) one.0 (e, below-less x v vs e other.0), less)
rise-by x v xs vs Equal e one other less equal greater =
    subst Rises (sym (both-equal x v xs vs e)) (both-below x xs vs one.0 (below-equal x v vs e other.0), equal)
rise-by x v xs vs Greater e one other less equal greater =
    subst Rises (sym (both-greater x v xs vs e)) (both-below v (x ∷ xs) vs (turned x v e, below-less v x xs (turned x v e) one.0) other.0, greater)

rise-at : (x : List ℕ) (xs : List (List ℕ)) → Rises (x ∷ xs) → ((ys : List (List ℕ)) → Rises ys → Rises (names_of_both xs ys)) → (vs : List (List ℕ)) → Rises vs
    → Rises (names_of_both (x ∷ xs) vs)
unfolding IsStrictlySortedBy
rise-at x xs one on [] other = one
rise-at x xs one on (v ∷ vs) other =
    rise-by x v xs vs (slice_cmp nat_cmp x v) refl one other (on (v ∷ vs) other) (on vs other.1) (rise-at x xs one on vs other.1)

pub both-rise : NamesOfBothRise
unfolding IsStrictlySortedBy
both-rise [] other rise also = also
both-rise (x ∷ xs) other rise also = rise-at x xs rise (λ vs up. both-rise xs vs rise.1 up) other also
