-- Parts that are appended one after another.
use Rattle.std.proofs.Common.{◌≡◌, ◌∙◌, ℕ, ◌+◌, ◌<◌, ◌≤◌, List, ◌++◌, ◌∷◌, drop, map, length, get_or, refl, sym, ap, append_assoc, append-nil, add-one}
use Rattle.std.specs.List.{concat}
use Rattle.std.proofs.lemmas.List.{drop_all}
use Rattle.std.proofs.Math.Seq.{drop-cons}

-- what is left is its next element and the rest
pub left : {X : Type 0} (xs : List X) (i : ℕ) (x : X) → i < length xs → x ≡ get_or xs i x → drop i xs ≡ x ∷ drop (i + 1) xs
left xs i x low is = drop-cons xs i x low ∙ rw (← is, add-one) refl

-- after a part was appended, what is still to come is as it was
pub part_in_turn : {X : Type 0} (see : X → List ℕ) (xs : List X) (i : ℕ) (x : X) (before after all : List ℕ) → i < length xs → x ≡ get_or xs i x
    → after ≡ before ++ see x → before ++ concat (map see (drop i xs)) ≡ all → after ++ concat (map see (drop (i + 1) xs)) ≡ all
part_in_turn {X} see xs i x before after all low is appended so_far =
    rw (appended, append_assoc) (ap (λ (ys : List X). before ++ concat (map see ys)) (sym (left xs i x low is)) ∙ so_far)

-- after the last, all is there
pub all_parts : {X : Type 0} (see : X → List ℕ) (xs : List X) (i : ℕ) (before all : List ℕ) → length xs ≤ i
    → before ++ concat (map see (drop i xs)) ≡ all → before ≡ all
all_parts {X} see xs i before all past so_far =
    sym (append-nil before) ∙ ap (λ (ys : List X). before ++ concat (map see ys)) (sym (drop_all i xs past)) ∙ so_far
