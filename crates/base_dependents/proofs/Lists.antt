-- Places in a list that has no number twice.
use Rattle.std.proofs.Common.{◌≡◌, ℕ, ◌<◌, inl, inr, true, false, List, get_or, nat_eq, position, Option, Some, None, is_some, slice_get, refl, sym, ◌∙◌}
use Rattle.std.proofs.Common.{ap, arith}
use Rattle.std.specs.List.{list_any, IsDistinct}
use Rattle.std.proofs.lemmas.Bool.{false≢true, cases_lt, eqb-true, eq-eqb}
use Rattle.std.proofs.lemmas.Option.{slice_get_within, slice_get-get_or, get_or_from_slice_get}
use Rattle.std.proofs.lemmas.List.Quantifiers.{position-Some}
use Rattle.std.proofs.lemmas.Map.Keys.{apart_from_distinct, any_passes_from_place}

pub once : (xs : List ℕ) (i j x : ℕ) → IsDistinct nat_eq xs → slice_get xs i ≡ Some x → slice_get xs j ≡ Some x → i ≡ j
once xs i j x d e f =
    elim (cases_lt i j) [
      | inl below ↦ absurd (apart xs i j x d below e f)
      | inr above ↦ elim (cases_lt j i) [
        | inl below ↦ absurd (apart xs j i x d below f e)
        | inr same ↦ omega arith
      ]
    ]
  where
    apart : (xs : List ℕ) (i j x : ℕ) → IsDistinct nat_eq xs → i < j → slice_get xs i ≡ Some x → slice_get xs j ≡ Some x → ⊥
    apart xs i j x d l e f =
        let off = apart_from_distinct nat_eq xs i j x d l (slice_get_within xs j x f) in
        let a : get_or xs i x ≡ x = get_or_from_slice_get xs i x x e in
        let b : get_or xs j x ≡ x = get_or_from_slice_get xs j x x f in
        let one : nat_eq x x ≡ false = ap (λ y. nat_eq y x) (sym a) ∙ (ap (λ y. nat_eq (get_or xs i x) y) (sym b) ∙ off) in
        false≢true (sym one ∙ eq-eqb x x refl)

is_there : (o : Option ℕ) → is_some o ≡ true → (i : ℕ) × (o ≡ Some i)
is_there None e = absurd (false≢true e)
is_there (Some i) e = (i, refl)

-- the place that a search by value gives
pub place_given : (xs : List ℕ) (x : ℕ) (place : Option ℕ) (i : ℕ) → place ≡ position (nat_eq x) xs → place ≡ Some i → slice_get xs i ≡ Some x
place_given xs x place i e f =
    let p = position-Some (nat_eq x) xs i x (sym e ∙ f) in
    slice_get-get_or xs i x p.0 ∙ ap (λ y. Some y) (sym (eqb-true x (get_or xs i x) p.1))

pub place_found : (xs : List ℕ) (x : ℕ) (place : Option ℕ) (i : ℕ) → IsDistinct nat_eq xs → place ≡ position (nat_eq x) xs
    → is_some place ≡ list_any (nat_eq x) xs → slice_get xs i ≡ Some x → place ≡ Some i
place_found xs x place i d e some f =
    let there = is_there place (some ∙ any_passes_from_place (nat_eq x) xs i x f (eq-eqb x x refl)) in
    let same : there.0 ≡ i = once xs there.0 i x d (place_given xs x place there.0 e there.1) f in
    there.1 ∙ ap (λ y. Some y) same
