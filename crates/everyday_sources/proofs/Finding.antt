-- Elements of lists that are looked for, and tests of the elements of a list.
use Rattle.std.proofs.Common.{◌≡◌, ◌+◌, ◌<◌, ◌≤◌, ℕ, Bool, true, false, ◌||◌, List, [], ◌∷◌, Some, None, drop, map, length, get_or, refl, ap, ◌∙◌, add-one}
use Rattle.std.specs.List.{find, list_any}
use Rattle.std.proofs.lemmas.List.{drop_all}
use Rattle.std.proofs.Math.Seq.{drop-cons}

-- what is left is its next element and the rest
pub left : {X : Type 0} (xs : List X) (i : ℕ) (x : X) → i < length xs → x ≡ get_or xs i x → drop i xs ≡ x ∷ drop (i + 1) xs
left xs i x low is = drop-cons xs i x low ∙ rw (← is, add-one) refl

module _ {X Y : Type 0} (p : Y → Bool) (f : X → Y) where
  -- the next is the one
  pub find_here : (xs : List X) (i : ℕ) (x : X) → i < length xs → x ≡ get_or xs i x → p (f x) ≡ true → find p (map f (drop i xs)) ≡ Some (f x)
  find_here xs i x low is yes_here = rw (left xs i x low is, yes_here) refl

  -- the next is not
  pub find_later : (xs : List X) (i : ℕ) (x : X) → i < length xs → x ≡ get_or xs i x → p (f x) ≡ false
      → find p (map f (drop (i + 1) xs)) ≡ find p (map f (drop i xs))
  find_later xs i x low is not_here = rw (left xs i x low is, not_here) refl

  -- none is left
  pub find_none : (xs : List X) (i : ℕ) → length xs ≤ i → find p (map f (drop i xs)) ≡ None
  find_none xs i past = rw (drop_all i xs past) refl

pub list_any-map : {X Y : Type 0} (p : Y → Bool) (f : X → Y) (xs : List X) → list_any (λ x. p (f x)) xs ≡ list_any p (map f xs)
list_any-map p f [] = refl
list_any-map p f (x ∷ xs) = ap (λ b. p (f x) || b) (list_any-map p f xs)

module _ {X Y : Type 0} (p : Y → Bool) (f : X → Y) where
  -- the next is one
  pub any_here : (xs : List X) (i : ℕ) (x : X) → i < length xs → x ≡ get_or xs i x → p (f x) ≡ true → list_any p (map f (drop i xs)) ≡ true
  any_here xs i x low is yes_here = rw (left xs i x low is, yes_here) refl

  -- the next is none
  pub any_later : (xs : List X) (i : ℕ) (x : X) → i < length xs → x ≡ get_or xs i x → p (f x) ≡ false
      → list_any p (map f (drop (i + 1) xs)) ≡ list_any p (map f (drop i xs))
  any_later xs i x low is not_here = rw (left xs i x low is, not_here) refl

  -- none is left
  pub any_none : (xs : List X) (i : ℕ) → length xs ≤ i → list_any p (map f (drop i xs)) ≡ false
  any_none xs i past = rw (drop_all i xs past) refl
