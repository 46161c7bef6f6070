-- Elements of lists by their places.
use Rattle.std.proofs.Common.{◌≡◌, ℕ, zero, suc, ◌+◌, ◌<◌, ◌⊎◌, inl, inr, true, List, [], ◌∷◌, ◌++◌, length, get_or, set, take, drop, map, nat_eq, Some}
use Rattle.std.proofs.Common.{slice_get, refl, sym, ap, arith}
use Rattle.std.specs.List.{list_any}
use Rattle.std.proofs.lemmas.Bool.{false≢true, or_cases, eqb-true}
use Rattle.std.proofs.lemmas.List.{map-append, take_more}
use Rattle.std.proofs.lemmas.Option.{same_Some, none-some}
use Rattle.ti_text.specs.Lists.{Has}

module _ {X : Type 0} where
  pub get_front : (xs ys : List X) (i : ℕ) (x : X) → slice_get xs i ≡ Some x → slice_get (xs ++ ys) i ≡ Some x
  get_front [] ys i x e = absurd (none-some x e)
  get_front (z ∷ zs) ys zero x e = e
  get_front (z ∷ zs) ys (suc i) x e = get_front zs ys i x e

  pub get_back : (xs ys : List X) (j : ℕ) (x : X) → slice_get ys j ≡ Some x → slice_get (xs ++ ys) (length xs + j) ≡ Some x
  get_back [] ys j x e = let z : 0 + j ≡ j = omega arith in rw z e
  get_back (w ∷ ws) ys j x e = let z : suc (length ws) + j ≡ suc (length ws + j) = omega arith in rw z (get_back ws ys j x e)

  pub get_cases : (xs ys : List X) (i : ℕ) (x : X) → slice_get (xs ++ ys) i ≡ Some x → (slice_get xs i ≡ Some x)
      ⊎ ((j : ℕ) × (i ≡ length xs + j) × (slice_get ys j ≡ Some x))
  get_cases [] ys i x e = inr (i, omega arith, e)
  get_cases (z ∷ zs) ys zero x e = inl e
  get_cases (z ∷ zs) ys (suc i) x e =
      elim (get_cases zs ys i x e) [
        | inl here ↦ inl here
        | inr there ↦ inr (there.0, (let f = there.1 in omega arith), there.2)
      ]

  pub get_last : (xs : List X) (y : X) → slice_get (xs ++ y ∷ []) (length xs) ≡ Some y
  get_last [] y = refl
  get_last (x ∷ xs) y = get_last xs y

  pub push_cases : (xs : List X) (y : X) (i : ℕ) (x : X) → slice_get (xs ++ y ∷ []) i ≡ Some x → (slice_get xs i ≡ Some x) ⊎ ((i ≡ length xs) × (x ≡ y))
  push_cases [] y zero x e = inr (refl, sym (same_Some y x e))
  push_cases [] y (suc i) x e = absurd (none-some x e)
  push_cases (z ∷ zs) y zero x e = inl e
  push_cases (z ∷ zs) y (suc i) x e =
      elim (push_cases zs y i x e) [ inl here ↦ inl here | inr there ↦ inr (ap suc there.0, there.1) ]

  pub get-take : (n : ℕ) (xs : List X) (k : ℕ) (x : X) → k < n → slice_get xs k ≡ Some x → slice_get (take n xs) k ≡ Some x
  get-take zero xs k x l e = absurd (omega arith)
  get-take (suc n) [] k x l e = e
  get-take (suc n) (z ∷ zs) zero x l e = e
  get-take (suc n) (z ∷ zs) (suc k) x l e = get-take n zs k x (omega arith) e

  pub take_get : (n : ℕ) (xs : List X) (k : ℕ) (x : X) → slice_get (take n xs) k ≡ Some x → (k < n) × (slice_get xs k ≡ Some x)
  take_get zero xs k x e = absurd (none-some x e)
  take_get (suc n) [] k x e = absurd (none-some x e)
  take_get (suc n) (z ∷ zs) zero x e = (omega arith, e)
  take_get (suc n) (z ∷ zs) (suc k) x e = let w = take_get n zs k x e in (omega (arith, w.0), w.1)

  pub get-drop : (n : ℕ) (xs : List X) (j : ℕ) (x : X) → slice_get xs (n + j) ≡ Some x → slice_get (drop n xs) j ≡ Some x
  get-drop zero xs j x e = let z : 0 + j ≡ j = omega arith in rw z at e
  get-drop (suc n) [] j x e = e
  get-drop (suc n) (w ∷ ws) j x e =
      let z : suc n + j ≡ suc (n + j) = omega arith in get-drop n ws j x (rw z at e)

  pub drop_get : (n : ℕ) (xs : List X) (j : ℕ) (x : X) → slice_get (drop n xs) j ≡ Some x → slice_get xs (n + j) ≡ Some x
  drop_get zero xs j x e = let z : 0 + j ≡ j = omega arith in rw z e
  drop_get (suc n) [] j x e = e
  drop_get (suc n) (w ∷ ws) j x e =
      let z : suc n + j ≡ suc (n + j) = omega arith in rw z (drop_get n ws j x e)

  pub get-set_same : (xs : List X) (i : ℕ) (x y : X) → slice_get xs i ≡ Some x → slice_get (set xs i y) i ≡ Some y
  get-set_same [] i x y e = absurd (none-some x e)
  get-set_same (z ∷ zs) zero x y e = refl
  get-set_same (z ∷ zs) (suc i) x y e = get-set_same zs i x y e

  pub get-set_other : (xs : List X) (i j : ℕ) (y : X) → (j ≡ i → ⊥) → slice_get (set xs i y) j ≡ slice_get xs j
  get-set_other [] i j y n = refl
  get-set_other (z ∷ zs) zero zero y n = absurd (n refl)
  get-set_other (z ∷ zs) zero (suc j) y n = refl
  get-set_other (z ∷ zs) (suc i) zero y n = refl
  get-set_other (z ∷ zs) (suc i) (suc j) y n = get-set_other zs i j y (λ e. n (ap suc e))

  -- a place within a list has an element
  pub item_at : (xs : List X) (i : ℕ) → i < length xs → (x : X) × (slice_get xs i ≡ Some x)
  item_at [] i l = absurd (omega arith)
  item_at (x ∷ xs) zero l = (x, refl)
  item_at (x ∷ xs) (suc i) l = item_at xs i (omega arith)

-- ---- what is in a list

pub Has_front : (xs ys : List ℕ) (x : ℕ) → Has xs x → Has (xs ++ ys) x
Has_front xs ys x h = (h.0, get_front xs ys h.0 x h.1)

pub Has_last : (xs : List ℕ) (y : ℕ) → Has (xs ++ y ∷ []) y
Has_last xs y = (length xs, get_last xs y)

pub Has_push : (xs : List ℕ) (y x : ℕ) → Has (xs ++ y ∷ []) x → Has xs x ⊎ (x ≡ y)
Has_push xs y x h = elim (push_cases xs y h.0 x h.1) [ inl here ↦ inl (h.0, here) | inr last ↦ inr last.1 ]

pub Has_split : (xs ys : List ℕ) (x : ℕ) → Has (xs ++ ys) x → Has xs x ⊎ Has ys x
Has_split xs ys x h =
    elim (get_cases xs ys h.0 x h.1) [ inl here ↦ inl (h.0, here) | inr there ↦ inr (there.0, there.2) ]

pub Has_one : (y x : ℕ) → Has (y ∷ []) x → x ≡ y
Has_one y x (zero, e) = sym (same_Some y x e)
Has_one y x (suc i, e) = absurd (none-some x e)

pub Has_none : (x : ℕ) → Has [] x → ⊥
Has_none x h = none-some x h.1

pub Has_from_any : (xs : List ℕ) (x : ℕ) → list_any (nat_eq x) xs ≡ true → Has xs x
Has_from_any [] x e = absurd (false≢true e)
Has_from_any (y ∷ ys) x e =
    elim (or_cases (nat_eq x y) (list_any (nat_eq x) ys) e) [
      | inl here ↦ (0, ap (λ z. Some z) (sym (eqb-true x y here)))
      | inr later ↦ let w = Has_from_any ys x later in (suc w.0, w.1)
    ]

pub take_item : {X : Type 0} (xs : List X) (i : ℕ) (x : X) → i < length xs → x ≡ get_or xs i x → take (i + 1) xs ≡ take i xs ++ x ∷ []
take_item xs i x l e = rw (take_more xs i x l, ← e) refl

pub map-take_item : {X Y : Type 0} (f : X → Y) (xs : List X) (i : ℕ) (x : X) → i < length xs → x ≡ get_or xs i x
    → map f (take (i + 1) xs) ≡ map f (take i xs) ++ f x ∷ []
map-take_item f xs i x l e = rw (take_more xs i x l, map-append f (take i xs) (get_or xs i x ∷ []), ← e) refl
