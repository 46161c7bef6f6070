-- The elements of a list, as they are tested and taken in turn.
use Rattle.std.proofs.Common.{◌≡◌, ℕ, ◌+◌, ◌<◌, Bool, ◌||◌, List, [], ◌∷◌, ◌++◌, drop, length, map}
use Rattle.std.proofs.Common.{get_or, refl, sym, ◌∙◌, ap, append_assoc, add-one}
use Rattle.std.proofs.Math.Seq.{drop-cons}
use Rattle.std.specs.List.{flat_map, list_any}

-- what is seen of an element passes as the element does
pub any_seen : {X Y : Type 0} (p : Y → Bool) (f : X → Y) (xs : List X) → list_any (λ x. p (f x)) xs ≡ list_any p (map f xs)
any_seen p f [] = refl
any_seen p f (x ∷ xs) = ap (λ b. p (f x) || b) (any_seen p f xs)

-- after what one element gives was added, what is still to come is as it was
pub in_turn : {X Y Z : Type 0} (f : Y → List Z) (seen : X → Y) (xs : List X) (place : ℕ) (x : X) (before after all : List Z) → place < length xs
    → x ≡ get_or xs place x → after ≡ before ++ f (seen x) → before ++ flat_map f (map seen (drop place xs)) ≡ all
    → after ++ flat_map f (map seen (drop (place + 1) xs)) ≡ all
in_turn {X} f seen xs place x before after all within is adds invariant =
    let one : drop place xs ≡ x ∷ drop (place + 1) xs = drop-cons xs place x within ∙ rw (← is, add-one) refl in
    rw (adds, append_assoc) (ap (λ (ys : List X). before ++ flat_map f (map seen ys)) (sym one) ∙ invariant)
