-- What a binary search finds in rows whose names are in order.
use Rattle.std.proofs.Common.{◌≡◌, ◌≢◌, ℕ, zero, suc, ◌+◌, ◌<◌, Bool, true, ◌&&◌, List, [], ◌∷◌, map, length, get_or, refl, ◌∙◌, ap, subst, arith}
use Rattle.std.specs.Ordering.{nat_cmp, is_lt, is_eq}
use Rattle.std.specs.declared.cmp.Ordering.TheVariants.{Less, Equal, Greater}
use Rattle.std.specs.Cmp.Lexicographic.{slice_cmp, texts_ties}
use Rattle.std.proofs.lemmas.Bool.{and_parts}
use Rattle.std.proofs.lemmas.Cmp.{nat_list_cmp_total, tied_itself}
use Rattle.std.proofs.lemmas.List.{get_or-map, length-map}
use Rattle.std.proofs.lemmas.Map.Keys.{Less-from_sorted, sorted_from_all_adjacent}
use Rattle.std.proofs.lemmas.Slice.Eq.{bytes_eq-Decides}
use native.Mathlib.Numerals.{unary_clauses}
use Rattle.ti_caps.specs.inside.Lookup.{NameRow}
use Rattle.ti_caps.specs.inside.Lookup.{IsInNameOrder}

-- texts that compare as equal are equal, and no text is below itself
pub text_from_equal : (x y : List ℕ) → slice_cmp nat_cmp x y ≡ Equal → x ≡ y
text_from_equal x y e = (bytes_eq-Decides x y).0 (texts_ties x y ∙ ap is_eq e)

pub unequal_from_less : (x y : List ℕ) → slice_cmp nat_cmp x y ≡ Less → x ≢ y
unequal_from_less x y e same =
    let tied = tied_itself nat_list_cmp_total y in let low : slice_cmp nat_cmp y y ≡ Less = subst (λ t. slice_cmp nat_cmp t y ≡ Less) same e in cc

pub unequal_from_greater : (x y : List ℕ) → slice_cmp nat_cmp x y ≡ Greater → x ≢ y
unequal_from_greater x y e same =
    let tied = tied_itself nat_list_cmp_total y in let high : slice_cmp nat_cmp y y ≡ Greater = subst (λ t. slice_cmp nat_cmp t y ≡ Greater) same e in cc

-- names that rise from one to the next are in order
abbrev pub rising_from : List ℕ → List (List ℕ) → Bool
rising_from x [] = true
rising_from x (y ∷ ys) = is_lt (slice_cmp nat_cmp x y) && rising_from y ys

less_from_test : (x y : List ℕ) → is_lt (slice_cmp nat_cmp x y) ≡ true → slice_cmp nat_cmp x y ≡ Less
less_from_test x y e = elim (slice_cmp nat_cmp x y) as (λ o. is_lt o ≡ true → o ≡ Less) [ Less ↦ λ _. refl | Equal ↦ λ h. cc | Greater ↦ λ h. cc ] e

pub adjacent_from_rising : (x : List ℕ) (xs : List (List ℕ)) → rising_from x xs ≡ true → (k : ℕ) → k + 1 < length (x ∷ xs)
    → slice_cmp nat_cmp (get_or (x ∷ xs) k []) (get_or (x ∷ xs) (k + 1) []) ≡ Less
adjacent_from_rising x [] h k l = absurd (omega arith)
adjacent_from_rising x (y ∷ ys) h zero l = less_from_test x y (and_parts _ _ h).0
adjacent_from_rising x (y ∷ ys) h (suc k) l = simp unary_clauses (simp unary_clauses at (adjacent_from_rising y ys (and_parts _ _ h).1 k (omega arith)))

pub order_from_rising : (r : NameRow) (rs : List NameRow) → rising_from r.0 (map (λ q. q.0) rs) ≡ true → IsInNameOrder (r ∷ rs)
order_from_rising r rs h =
    record { sorted = sorted_from_all_adjacent nat_list_cmp_total (map (λ q. q.0) (r ∷ rs)) [] (adjacent_from_rising r.0 (map (λ q. q.0) rs) h) }

-- in rows that are in order, a name is in one place
pub names_apart : (rows : List NameRow) → IsInNameOrder rows → (i j : ℕ) (d : NameRow) → i < j → j < length rows → (get_or rows i d).0 ≢ (get_or rows j d).0
names_apart rows order i j d l within =
    let name = λ (r : NameRow). r.0 in
    let low : i < length rows = omega arith in
    unequal_from_less _ _ (rw (← get_or-map name rows i d d.0 low, ← get_or-map name rows j d d.0 within)
    (Less-from_sorted _ (map name rows) i j d.0 order.sorted l (rw length-map within)))
