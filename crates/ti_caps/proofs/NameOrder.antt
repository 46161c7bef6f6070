-- The capabilities of a kind have one order by name: lists that are such an order are equal, and
-- the sorted list is one.
use Rattle.std.proofs.Common.{◌≡◌, ◌≢◌, ℕ, zero, suc, ◌<◌, true, false, cond, List, [], ◌∷◌, map, length, get_or, refl, sym, ap, ◌∙◌, subst, arith, inl}
use Rattle.std.proofs.Common.{inr, All}
use Rattle.std.specs.Prelude.{◌⊎◌}
use Rattle.std.specs.Ordering.{nat_cmp, is_lt}
use Rattle.std.specs.declared.cmp.Ordering.TheVariants.{Less, Equal, Greater}
use Rattle.std.specs.Cmp.Lexicographic.{slice_cmp}
use Rattle.std.specs.List.{Contains, AllByRecursion}
use Rattle.std.specs.List.Sorted.{IsStrictlySortedBy}
use Rattle.std.proofs.lemmas.Bool.{cases_lt}
use Rattle.std.proofs.lemmas.Cmp.{nat_list_cmp_total}
use Rattle.std.proofs.lemmas.List.{get_or-map, length-map}
use Rattle.std.proofs.lemmas.Map.Keys.{Less-from_sorted, sorted_tail}
use Rattle.ti_caps.specs.declared.capability.Kind.{Kind}
use Rattle.ti_caps.specs.Tables.{Capability, IsCapability, capability, count_of, name_of}
use Rattle.ti_caps.specs.NameOrder.{IsNameOrder, EachKindIsInOrder, OrdersByNameAreOne, in_name_order, put_by_name, sorted_by_name}
use Rattle.ti_caps.proofs.Order.{text_from_equal, unequal_from_less}
use Rattle.ti_caps.proofs.Table.{distinct_names}

-- ---- the order of names

-- the first name comes before the second
abbrev Before : Capability → Capability → Type 0
Before c d = slice_cmp nat_cmp (name_of c) (name_of d) ≡ Less

never : (c : Capability) → Before c c → ⊥
never c h = unequal_from_less (name_of c) (name_of c) h refl

before-trans : (b c d : Capability) → Before b c → Before c d → Before b d
before-trans b c d h k = nat_list_cmp_total.trans (name_of b) (name_of c) (name_of d) h k

not_both : (c d : Capability) → Before c d → Before d c → ⊥
not_both c d h k = never c (before-trans c d c h k)

-- of two names that differ, one comes before the other
other_way : (c d : Capability) → name_of c ≢ name_of d → is_lt (slice_cmp nat_cmp (name_of c) (name_of d)) ≡ false → Before d c
other_way c d apart above =
    elim (slice_cmp nat_cmp (name_of c) (name_of d)) as (λ o. slice_cmp nat_cmp (name_of c) (name_of d) ≡ o → is_lt o ≡ false → Before d c) [
      | Less ↦ λ e f. cc
      | Equal ↦ λ e f. absurd (apart (text_from_equal (name_of c) (name_of d) e))
      | Greater ↦ λ e f. let back = nat_list_cmp_total.antisymm (name_of d) (name_of c) in rw (back, e) refl
    ] refl above

from_test : (c d : Capability) → is_lt (slice_cmp nat_cmp (name_of c) (name_of d)) ≡ true → Before c d
from_test c d below =
    elim (slice_cmp nat_cmp (name_of c) (name_of d)) as (λ o. is_lt o ≡ true → o ≡ Less) [ Less ↦ λ _. refl | Equal ↦ λ h. cc | Greater ↦ λ h. cc ] below

-- ---- lists that are an order by name are equal

abbrev Sorted : List Capability → Type 0
Sorted caps = IsStrictlySortedBy (slice_cmp nat_cmp) (map (λ c. name_of c) caps)

abbrev IsWithin : List Capability → List Capability → Type 0
IsWithin xs ys = (c : Capability) → Contains xs c → Contains ys c

after : (x : Capability) (xs : List Capability) → Sorted (x ∷ xs) → (i : ℕ) → i < length xs → (e : Capability) → Before x (get_or xs i e)
after x xs s i l e =
    subst (λ (n : List ℕ). slice_cmp nat_cmp (name_of x) n ≡ Less) (get_or-map (λ c. name_of c) xs i e (name_of e) l)
    (Less-from_sorted (slice_cmp nat_cmp) (map (λ c. name_of c) (x ∷ xs)) 0 (suc i) (name_of e) s (omega arith) (rw length-map (omega arith)))

first_or_later : (x : Capability) (xs : List Capability) (c : Capability) → Sorted (x ∷ xs) → Contains (x ∷ xs) c → (x ≡ c) ⊎ Before x c
first_or_later x xs c s (zero, l, at) = inl at
first_or_later x xs c s (suc i, l, at) = inr (subst (λ (d : Capability). Before x d) at (after x xs s i (omega arith) c))

module _ (x : Capability) (xs : List Capability) (y : Capability) (ys : List Capability) (s : Sorted (x ∷ xs)) (t : Sorted (y ∷ ys)) where
  heads : IsWithin (x ∷ xs) (y ∷ ys) → IsWithin (y ∷ ys) (x ∷ xs) → x ≡ y
  heads f g = elim (first_or_later y ys x t (f x (0, omega arith, refl))) [
    | inl e ↦ sym e
    | inr low ↦ elim (first_or_later x xs y s (g y (0, omega arith, refl))) [ inl e ↦ e | inr high ↦ absurd (not_both x y high low) ]
  ]

  -- what is after the first item of one list is after the first item of the other
  behind : x ≡ y → (c : Capability) → Before x c → Contains (y ∷ ys) c → Contains ys c
  behind e c h (zero, l, at) = absurd (never c (subst (λ (d : Capability). Before d c) (e ∙ at) h))
  behind e c h (suc j, l, at) = (j, omega arith, at)

  tails : x ≡ y → IsWithin (x ∷ xs) (y ∷ ys) → IsWithin xs ys
  tails e f c w = behind e c (subst (λ (d : Capability). Before x d) w.2 (after x xs s w.0 w.1 c)) (f c (suc w.0, (let l = w.1 in omega arith), w.2))

equal : (xs ys : List Capability) → Sorted xs → Sorted ys → IsWithin xs ys → IsWithin ys xs → xs ≡ ys
equal [] [] s t f g = refl
equal [] (y ∷ ys) s t f g = let w = (g y (0, omega arith, refl)).1 in absurd (omega arith)
equal (x ∷ xs) [] s t f g = let w = (f x (0, omega arith, refl)).1 in absurd (omega arith)
equal (x ∷ xs) (y ∷ ys) s t f g =
    let e = heads x xs y ys s t f g in
    ap (λ (c : Capability). c ∷ xs) e
    ∙ ap (λ (cs : List Capability). y ∷ cs)
    (equal xs ys (sorted_tail (slice_cmp nat_cmp) (name_of x) (map (λ c. name_of c) xs) s)
    (sorted_tail (slice_cmp nat_cmp) (name_of y) (map (λ c. name_of c) ys) t)
    (tails x xs y ys s t e f) (tails y ys x xs t s (sym e) g))

within_order : (kind : Kind) (xs ys : List Capability) → IsNameOrder kind xs → IsNameOrder kind ys → IsWithin xs ys
within_order kind xs ys h k c w =
    let valid = subst (λ (d : Capability). (d.kind ≡ kind) × IsCapability d) w.2 (h.valid w.0 c w.1) in
    subst (λ (d : Capability). Contains ys d) (ap (λ q. capability q c.index) (sym valid.0)) (k.all c.index (subst (λ q. c.index < count_of q) valid.0 valid.1))

pub orders_are_one : OrdersByNameAreOne
orders_are_one kind xs ys h k = equal xs ys h.rises k.rises (within_order kind xs ys h k) (within_order kind ys xs k h)

-- ---- the sorted list is an order by name

-- what holds of a capability and of those of a list holds of all of them together
put-all : (P : Capability → Type 0) (c : Capability) (xs : List Capability) → P c → AllByRecursion P xs → AllByRecursion P (put_by_name c xs)
put-all P c [] p all = (p, tt)
put-all P c (d ∷ ds) p all = elim (is_lt (slice_cmp nat_cmp (name_of c) (name_of d))) as (λ b. AllByRecursion P (cond b (c ∷ d ∷ ds) (d ∷ put_by_name c ds))) [
  | true ↦ (p, all)
  | false ↦ (all.0, put-all P c ds p all.1)
]

all-weaker : (P Q : Capability → Type 0) (xs : List Capability) → ((d : Capability) → P d → Q d) → AllByRecursion P xs → AllByRecursion Q xs
all-weaker P Q [] f all = tt
all-weaker P Q (d ∷ ds) f all = (f d all.0, all-weaker P Q ds f all.1)

all-at : (P : Capability → Type 0) (xs : List Capability) → AllByRecursion P xs → All P xs
all-at P [] all k d l = absurd (omega arith)
all-at P (x ∷ xs) all zero d l = all.0
all-at P (x ∷ xs) all (suc k) d l = all-at P xs all.1 k d (omega arith)

abbrev Rises : List Capability → Type 0
Rises [] = Unit {0}
Rises (c ∷ cs) = AllByRecursion (λ d. Before c d) cs × Rises cs

put-rises : (c : Capability) (xs : List Capability) → Rises xs → AllByRecursion (λ d. name_of c ≢ name_of d) xs → Rises (put_by_name c xs)
put-rises c [] r apart = (tt, tt)
put-rises c (d ∷ ds) r apart = elim (is_lt (slice_cmp nat_cmp (name_of c) (name_of d))) as (λ b. is_lt (slice_cmp nat_cmp (name_of c) (name_of d)) ≡ b
    → Rises (cond b (c ∷ d ∷ ds) (d ∷ put_by_name c ds))) [
      | true ↦ λ e. let low = from_test c d e in ((low, all-weaker (λ f. Before d f) (λ f. Before c f) ds (λ f h. before-trans c d f low h) r.0), r)
      | false ↦ λ e. (put-all (λ f. Before d f) c ds (other_way c d apart.0 e) r.0, put-rises c ds r.1 apart.1)
    ] refl

names-above : (c : Capability) (xs : List Capability) → AllByRecursion (λ d. Before c d) xs
    → AllByRecursion (λ n. slice_cmp nat_cmp (name_of c) n ≡ Less) (map (λ d. name_of d) xs)
names-above c [] all = tt
names-above c (d ∷ ds) all = (all.0, names-above c ds all.1)

sorted_from_rises : (xs : List Capability) → Rises xs → Sorted xs
unfolding IsStrictlySortedBy
sorted_from_rises [] r = tt
sorted_from_rises (x ∷ xs) r = (names-above x xs r.0, sorted_from_rises xs r.1)

abbrev Has : List Capability → Capability → Type 0
Has [] c = ⊥
Has (x ∷ xs) c = (x ≡ c) ⊎ Has xs c

put-has : (c : Capability) (xs : List Capability) → Has (put_by_name c xs) c
put-has c [] = inl refl
put-has c (d ∷ ds) = elim (is_lt (slice_cmp nat_cmp (name_of c) (name_of d))) as (λ b. Has (cond b (c ∷ d ∷ ds) (d ∷ put_by_name c ds)) c) [
  | true ↦ inl refl
  | false ↦ inr (put-has c ds)
]

put-keeps : (c : Capability) (xs : List Capability) (e : Capability) → Has xs e → Has (put_by_name c xs) e
put-keeps c [] e h = absurd h
put-keeps c (d ∷ ds) e h = elim (is_lt (slice_cmp nat_cmp (name_of c) (name_of d))) as (λ b. Has (cond b (c ∷ d ∷ ds) (d ∷ put_by_name c ds)) e) [
  | true ↦ inr h
  | false ↦ elim h [ inl is ↦ inl is | inr later ↦ inr (put-keeps c ds e later) ]
]

contains_from_has : (xs : List Capability) (c : Capability) → Has xs c → Contains xs c
contains_from_has [] c h = absurd h
contains_from_has (x ∷ xs) c (inl is) = (0, omega arith, is)
contains_from_has (x ∷ xs) c (inr later) = let w = contains_from_has xs c later in (suc w.0, (let l = w.1 in omega arith), w.2)

put-length : (c : Capability) (xs : List Capability) → length (put_by_name c xs) ≡ suc (length xs)
put-length c [] = refl
put-length c (d ∷ ds) =
    elim (is_lt (slice_cmp nat_cmp (name_of c) (name_of d))) as (λ b. length (cond b (c ∷ d ∷ ds) (d ∷ put_by_name c ds)) ≡ suc (length (d ∷ ds))) [
      | true ↦ refl
      | false ↦ ap (λ n. suc n) (put-length c ds)
    ]

-- the capabilities of a kind below a place
abbrev IsBelow : Kind → ℕ → Capability → Type 0
IsBelow kind n c = (c.kind ≡ kind) × (c.index < n)

module _ (kind : Kind) where
  sorted-length : (n : ℕ) → length (sorted_by_name kind n) ≡ n
  unfolding sorted_by_name
  sorted-length zero = refl
  sorted-length (suc n) = put-length (capability kind n) (sorted_by_name kind n) ∙ ap (λ m. suc m) (sorted-length n)

  sorted-below : (n : ℕ) → AllByRecursion (IsBelow kind n) (sorted_by_name kind n)
  unfolding sorted_by_name
  sorted-below zero = tt
  sorted-below (suc n) =
      put-all (IsBelow kind (suc n)) (capability kind n) (sorted_by_name kind n) (refl, omega arith)
      (all-weaker (IsBelow kind n) (IsBelow kind (suc n)) (sorted_by_name kind n) (λ d h. (h.0, (let l = h.1 in omega arith))) (sorted-below n))

  -- the name of the next capability is none of theirs
  next_apart : (n : ℕ) → n < count_of kind → (d : Capability) → IsBelow kind n d → name_of (capability kind n) ≢ name_of d
  next_apart n within d h same =
      let valid : IsCapability d = subst (λ q. d.index < count_of q) (sym h.0) (let l = h.1 in omega arith) in
      let one : capability kind n ≡ d = distinct_names (capability kind n) d within valid same in
      let places : n ≡ d.index = ap (λ (c : Capability). c.index) one in
      let l = h.1 in omega arith

  sorted-rises : (n : ℕ) → (n < suc (count_of kind)) → Rises (sorted_by_name kind n)
  unfolding sorted_by_name
  sorted-rises zero within = tt
  sorted-rises (suc n) within =
      put-rises (capability kind n) (sorted_by_name kind n) (sorted-rises n (omega arith))
      (all-weaker (IsBelow kind n) (λ d. name_of (capability kind n) ≢ name_of d) (sorted_by_name kind n) (next_apart n (omega arith)) (sorted-below n))

  sorted-has : (n i : ℕ) → i < n → Has (sorted_by_name kind n) (capability kind i)
  unfolding sorted_by_name
  sorted-has zero i l = absurd (omega arith)
  sorted-has (suc n) i l = elim (cases_lt i n) [
    | inl under ↦ put-keeps (capability kind n) (sorted_by_name kind n) (capability kind i) (sorted-has n i under)
    | inr over ↦
        let same : n ≡ i = omega arith in
        subst (λ m. Has (put_by_name (capability kind n) (sorted_by_name kind n)) (capability kind m)) same
        (put-has (capability kind n) (sorted_by_name kind n))
  ]

pub in_order : EachKindIsInOrder
in_order kind = record {
  rises = sorted_from_rises (in_name_order kind) (sorted-rises kind (count_of kind) (omega arith));
  valid = λ i d l.
      let below = all-at (IsBelow kind (count_of kind)) (in_name_order kind) (sorted-below kind (count_of kind)) i d l in
      (below.0, subst (λ q. (get_or (in_name_order kind) i d).index < count_of q) (sym below.0) below.1);
  all = λ i l. contains_from_has (in_name_order kind) (capability kind i) (sorted-has kind (count_of kind) i l);
}

-- the sorted list has as many capabilities as the kind
pub length-in_name_order : (kind : Kind) → length (in_name_order kind) ≡ count_of kind
length-in_name_order kind = sorted-length kind (count_of kind)
