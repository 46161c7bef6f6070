-- What is printed of entries in turn.
use Rattle.std.proofs.Common.{◌≡◌, ℕ, ◌+◌, ◌<◌, ◌≤◌, List, [], ◌∷◌, ◌++◌, length, map, drop}
use Rattle.std.proofs.Common.{get_or, refl, sym, ◌∙◌, ap, append_assoc, append-nil, add-one}
use Rattle.std.proofs.Math.Seq.{drop-cons}
use Rattle.std.proofs.lemmas.List.{drop_all}
use Rattle.std.specs.List.{flat_map}

-- after the text of one was written, what is still to come is as it was
pub in_turn : {X : Type 0} → {Y : Type 0} → (shown : X → Y) (text_of : Y → List ℕ) (xs : List X) (place : ℕ) (x : X) (before piece after all : List ℕ)
    → place < length xs
    → x ≡ get_or xs place x → piece ≡ text_of (shown x) → after ≡ before ++ piece
    → before ++ flat_map text_of (map shown (drop place xs)) ≡ all
    → after ++ flat_map text_of (map shown (drop (place + 1) xs)) ≡ all
in_turn {X} shown text_of xs place x before piece after all within is spells writes invariant =
    let one : drop place xs ≡ x ∷ drop (place + 1) xs = drop-cons xs place x within ∙ rw (← is, add-one) refl in
    rw (writes, spells, append_assoc) (ap (λ (ys : List X). before ++ flat_map text_of (map shown ys)) (sym one) ∙ invariant)

-- after the text of the last was written, all is there
pub all_in_turn : {X : Type 0} → {Y : Type 0} → (shown : X → Y) (text_of : Y → List ℕ) (xs : List X) (place : ℕ) (before all : List ℕ) → length xs ≤ place
    → before ++ flat_map text_of (map shown (drop place xs)) ≡ all
    → before ≡ all
all_in_turn {X} shown text_of xs place before all past invariant =
    let none : drop place xs ≡ [] = drop_all place xs past in
    sym (append-nil before) ∙ ap (λ (ys : List X). before ++ flat_map text_of (map shown ys)) (sym none) ∙ invariant
