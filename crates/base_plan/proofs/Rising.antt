-- Positions in ascending order, each once.
use Rattle.std.proofs.Common.{◌≡◌, ◌≢◌, ℕ, zero, suc, ◌<◌, inl, inr, false, List, [], ◌∷◌, length, get_or, remove, Some, slice_get, AllPairs, refl, sym}
use Rattle.std.proofs.Common.{◌∙◌, ap, arith}
use Rattle.std.specs.List.{AllByRecursion}
use Rattle.std.specs.List.Sorted.{IsPermutation, IsNonDecreasing}
use Rattle.std.proofs.lemmas.List.Kept.{AllPairs-from_increasing}
use Rattle.std.proofs.lemmas.Map.Keys.{IsDistinct-IsPermutation, IsDistinct-from_apart, IsStrictlyIncreasing-from_distinct}
use Rattle.std.proofs.lemmas.List.Sorted.{IsPermutation-refl, IsPermutation-sym, IsPermutation-trans, IsPermutation-append, IsPermutation-remove}
use Rattle.std.proofs.lemmas.Option.{none-some, same_Some, slice_get_within, slice_get-get_or, get_or_from_slice_get}
use Rattle.ti_text.specs.Lists.{Has, AreDistinct}
use Rattle.ti_source.specs.Sound.{IsRising}
use Rattle.base_index.proofs.Keeping.{remove_cases}
use Rattle.base_slots.proofs.Listings.{left_before}
use lib.Dec.{eqb}

all_later : (n : ℕ) (ys : List ℕ) → ((j d : ℕ) → j < length ys → n < get_or ys j d) → AllByRecursion (λ m. n < m) ys
all_later n [] h = tt
all_later n (y ∷ ys) h = (h 0 0 (omega arith), all_later n ys (λ j d l. h (suc j) d (omega arith)))

pub rising_of : (xs : List ℕ) → AllPairs (λ x y. x < y) xs → IsRising xs
rising_of [] h = tt
rising_of (x ∷ xs) h =
    (all_later x xs (λ j d l. h 0 (suc j) d (omega arith) (omega arith)), rising_of xs (λ i j d l m. h (suc i) (suc j) d (omega arith) (omega arith)))

apart : (x y : ℕ) → (x ≡ y → ⊥) → eqb x y ≡ false
apart x y n = grind (arith, n)

flips : (x y : ℕ) → eqb x y ≡ eqb y x
flips x y = grind arith

pub sorted_rises : (xs ys : List ℕ) → AreDistinct xs → IsPermutation xs ys → IsNonDecreasing ys → IsRising ys
sorted_rises xs ys h p up =
    let differ : (i j d : ℕ) → i < j → j < length xs → get_or xs i d ≡ get_or xs j d → ⊥ =
    λ i j d l m same. (let one = h i j (get_or xs j d) (slice_get-get_or xs i d (omega arith) ∙ ap (λ x. Some x) same) (slice_get-get_or xs j d m) in
    omega arith) in
    let distinct = IsDistinct-from_apart eqb xs (λ i j d l m. apart (get_or xs i d) (get_or xs j d) (differ i j d l m)) in
    let kept = IsDistinct-IsPermutation eqb flips xs ys p distinct in
    rising_of ys (AllPairs-from_increasing ys (IsStrictlyIncreasing-from_distinct ys up kept))

-- a number that is not the one taken out is left
stays_listed : (xs : List ℕ) (at id pos x : ℕ) → slice_get xs at ≡ Some id → slice_get xs pos ≡ Some x → x ≢ id → Has (remove xs at) x
stays_listed [] at id pos x e f apart = absurd (none-some id e)
stays_listed (z ∷ xs) zero id zero x e f apart = absurd (apart (sym (same_Some z x f) ∙ same_Some z id e))
stays_listed (z ∷ xs) zero id (suc pos) x e f apart = (pos, f)
stays_listed (z ∷ xs) (suc at) id zero x e f apart = (0, f)
stays_listed (z ∷ xs) (suc at) id (suc pos) x e f apart = let w = stays_listed xs at id pos x e f apart in (suc w.0, w.1)

-- ---- lists of the same numbers, each once, in two orders

without_one : (xs : List ℕ) (at : ℕ) → AreDistinct xs → AreDistinct (remove xs at)
without_one xs at d i j x e f = elim (remove_cases xs at i x e) [
  | inl a ↦ elim (remove_cases xs at j x f) [
    | inl b ↦ d i j x a.1 b.1
    | inr b ↦ (let same = d i (suc j) x a.1 b.1 in let l = a.0 in let m = b.0 in absurd (omega arith))
  ]
  | inr a ↦ elim (remove_cases xs at j x f) [
    | inl b ↦ (let same = d (suc i) j x a.1 b.1 in let l = a.0 in let m = b.0 in absurd (omega arith))
    | inr b ↦ (let same = d (suc i) (suc j) x a.1 b.1 in omega arith)
  ]
]

not_first : (x : ℕ) (xs : List ℕ) (z : ℕ) → Has (x ∷ xs) z → (z ≡ x → ⊥) → Has xs z
not_first x xs z (zero, e) apart = absurd (apart (sym (same_Some x z e)))
not_first x xs z (suc i, e) apart = (i, e)

pub same_numbers : (xs ys : List ℕ) → AreDistinct xs → AreDistinct ys → ((x : ℕ) → Has xs x → Has ys x) → ((x : ℕ) → Has ys x → Has xs x) → IsPermutation xs ys
same_numbers [] [] d e f g = IsPermutation-refl []
same_numbers [] (y ∷ ys) d e f g = absurd (none-some y (g y (0, refl)).1)
same_numbers (x ∷ xs) ys d e f g =
    let w = f x (0, refl) in
    let rest = remove ys w.0 in
    let moved = IsPermutation-remove ys w.0 x (slice_get_within ys w.0 x w.1) (sym (get_or_from_slice_get ys w.0 x x w.1)) in
    let tails = same_numbers xs rest
    (λ i j z a b. (let same = d (suc i) (suc j) z a b in omega arith))
    (without_one ys w.0 e)
    (λ z h. (let there = f z (suc h.0, h.1) in
    stays_listed ys w.0 x there.0 z w.1 there.1 (λ same. (let one = d 0 (suc h.0) x refl (h.1 ∙ ap (λ k. Some k) same) in absurd (omega arith)))))
    (λ z h. (let left = left_before ys w.0 x h.0 z e w.1 h.1 in not_first x xs z (g z left.0) left.1)) in
    IsPermutation-trans (x ∷ xs) (x ∷ rest) ys (IsPermutation-append (x ∷ []) (x ∷ []) xs rest (IsPermutation-refl (x ∷ [])) tails)
    (IsPermutation-sym ys (x ∷ rest) moved)
