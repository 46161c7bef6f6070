-- The first error among faults.
use Rattle.std.proofs.Common.{◌≡◌, ◌<◌, ℕ, inl, inr, Bool, true, false, not, cond, List, [], ◌∷◌, ◌+◌, map, length, Some, None, slice_get, refl, subst, sym, ◌∙◌, ap, ap₂}
use Rattle.std.specs.Prelude.{IsSome, is_some, nat_lt, option_and_then, option_map, slice_index_or}
use Rattle.std.specs.List.{find, position, position_or_len}
use Rattle.std.proofs.lemmas.Bool.{cases_Bool, false≢true, ltb-true, ltb-false}
use Rattle.std.proofs.lemmas.List.{length-map}
use Rattle.std.proofs.lemmas.List.Folds.{find_at}
use Rattle.std.proofs.lemmas.Option.{none-some, same_Some, slice_get-get_or, slice_get-map, slice_get_past}

find-map : {X Y : Type 0} (p : Y → Bool) (f : X → Y) (xs : List X) → find p (map f xs) ≡ option_map f (find (λ x. p (f x)) xs)
find-map p f [] = refl
find-map p f (x ∷ xs) = elim (p (f x)) as (λ b. cond b (Some (f x)) (find p (map f xs)) ≡ option_map f (cond b (Some x) (find (λ y. p (f y)) xs))) [
  | true ↦ refl
  | false ↦ find-map p f xs
]

-- the first place that passes
record IsFound {X : Type 0} (p : X → Bool) (xs : List X) (k : ℕ) : Type 0 where
  pub found : find p xs ≡ slice_get xs k
  pub within : k < length xs

first : {X : Type 0} (p : X → Bool) (xs : List X) (k : ℕ) → position p xs ≡ Some k → IsFound p xs k
first p xs k e = elim (cases_Bool (nat_lt (position_or_len p xs) (length xs))) [
  | inl below ↦
      let same = same_Some (position_or_len p xs) k (sym (ap (λ (v : Bool). cond v (Some (position_or_len p xs)) None) below) ∙ e) in
      record {
        found = find_at p xs ∙ ap (slice_get xs) same;
        within =
            subst (λ (n : ℕ). n < length xs) same (ltb-true (position_or_len p xs) (length xs) below);
      }
  | inr above ↦ absurd (none-some k (sym (ap (λ (v : Bool). cond v (Some (position_or_len p xs)) None) above) ∙ e))
]

nowhere : {X : Type 0} (p : X → Bool) (xs : List X) → position p xs ≡ None → find p xs ≡ None
nowhere p xs e = elim (cases_Bool (nat_lt (position_or_len p xs) (length xs))) [
  | inl below ↦ absurd (none-some (position_or_len p xs) (sym e ∙ ap (λ (v : Bool). cond v (Some (position_or_len p xs)) None) below))
  | inr above ↦ find_at p xs ∙ slice_get_past xs (position_or_len p xs) (ltb-false (position_or_len p xs) (length xs) above)
]

pub never : {X Y : Type 0} (p : Y → Bool) (f : X → Y) (xs : List X) (ys : List Y) → map f xs ≡ ys → position (λ x. p (f x)) xs ≡ None → IsSome (find p ys) → ⊥
never p f xs ys same e some =
    false≢true (sym (ap is_some (ap (find p) (sym same) ∙ find-map p f xs ∙ ap (option_map f) (nowhere (λ x. p (f x)) xs e))) ∙ some)

-- the first place among images
position_or_len-map : {X Y : Type 0} (p : Y → Bool) (f : X → Y) (xs : List X) → position_or_len p (map f xs) ≡ position_or_len (λ x. p (f x)) xs
position_or_len-map p f [] = refl
position_or_len-map p f (x ∷ xs) = ap (λ n. cond (not (p (f x))) (1 + n) 0) (position_or_len-map p f xs)

position-map : {X Y : Type 0} (p : Y → Bool) (f : X → Y) (xs : List X) → position p (map f xs) ≡ position (λ x. p (f x)) xs
position-map p f xs =
    ap₂ (λ at len. cond (nat_lt at len) (Some at) None) (position_or_len-map p f xs) (length-map xs f)

pub told-within : {X Y D S : Type 0} (p : Y → Bool) (f : X → Y) (seen : D → S) (xs : List X) (ys : List Y) (ds : List D) (shown : List S) (k : ℕ)
    → map f xs ≡ ys → map seen ds ≡ shown → length shown ≡ length ys → position (λ x. p (f x)) xs ≡ Some k → k < length ds
told-within p f seen xs ys ds shown k same told many e =
    subst (λ (n : ℕ). k < n)
    (sym (length-map xs f) ∙ ap length same ∙ sym many ∙ sym (ap length told) ∙ length-map ds seen)
    (first (λ x. p (f x)) xs k e).within

-- what is shown at the place of the first error
pub told-first : {X Y D S : Type 0} (p : Y → Bool) (f : X → Y) (seen : D → S) (xs : List X) (ys : List Y) (ds : List D) (shown : List S) (k : ℕ) (d : D)
    → map f xs ≡ ys → map seen ds ≡ shown → length shown ≡ length ys → position (λ x. p (f x)) xs ≡ Some k → d ≡ slice_index_or ds k d
    → Some (seen d) ≡ option_and_then (slice_get shown) (position p ys)
told-first p f seen xs ys ds shown k d same told many e is =
    let within = told-within p f seen xs ys ds shown k same told many e in
    ap (option_map seen) (ap (λ (x : _). Some x) is ∙ sym (slice_get-get_or ds k d within))
    ∙ sym (slice_get-map seen ds k)
    ∙ ap (λ ss. slice_get ss k) told
    ∙ ap (option_and_then (slice_get shown)) (sym (sym (ap (position p) same) ∙ position-map p f xs ∙ e))
