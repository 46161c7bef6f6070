-- What is printed of files in turn.
use Rattle.std.proofs.Common.{◌≡◌, ℕ, ◌+◌, ◌<◌, ◌≤◌, List, ◌∷◌, ◌++◌, length, drop}
use Rattle.std.proofs.Common.{get_or, refl, sym, ◌∙◌, ap, append_assoc, append-nil, add-one}
use Rattle.std.proofs.Math.Seq.{drop-cons}
use Rattle.std.proofs.lemmas.List.{drop_all}
use Rattle.std.specs.List.{flat_map}

-- after the text of one was written, what is still to come is as it was
pub in_turn : {X : Type 0} (text_of : X → List ℕ) (xs : List X) (place : ℕ) (x : X) (before after all : List ℕ) → place < length xs → x ≡ get_or xs place x
    → after ≡ before ++ text_of x → before ++ flat_map text_of (drop place xs) ≡ all → after ++ flat_map text_of (drop (place + 1) xs) ≡ all
in_turn {X} text_of xs place x before after all within is writes invariant =
    let one : drop place xs ≡ x ∷ drop (place + 1) xs = drop-cons xs place x within ∙ rw (← is, add-one) refl in
    rw (writes, append_assoc) (ap (λ (ys : List X). before ++ flat_map text_of ys) (sym one) ∙ invariant)

-- after the text of the last was written, all is there
pub all_in_turn : {X : Type 0} (text_of : X → List ℕ) (xs : List X) (place : ℕ) (before all : List ℕ) → length xs ≤ place
    → before ++ flat_map text_of (drop place xs) ≡ all → before ≡ all
all_in_turn {X} text_of xs place before all past invariant =
    sym (append-nil before) ∙ ap (λ (ys : List X). before ++ flat_map text_of ys) (sym (drop_all place xs past)) ∙ invariant
