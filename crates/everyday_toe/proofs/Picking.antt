-- Rows that are picked by their numbers, wherever they are in memory.
use Rattle.std.proofs.Common.{◌≡◌, ◌∙◌, ◌++◌, ℕ, List, [], ◌∷◌, map, Option, Some, None, refl, sym, ap}
use Rattle.std.specs.Prelude.{option_map, slice_get}
use Rattle.std.proofs.lemmas.List.{append-nil, append_assoc}
use Rattle.std.proofs.lemmas.Option.{slice_get-map}
use Rattle.everyday_toe.specs.Ordering.{before_others, picked}

map-before_others : {A B : Type 0} (f : A → B) (row : Option A) (others : List A)
    → map f (before_others row others) ≡ before_others (option_map f row) (map f others)
map-before_others f None others = refl
map-before_others f (Some row) others = refl

pub map-picked : {A B : Type 0} (f : A → B) (rows : List A) (numbers : List ℕ) → map f (picked rows numbers) ≡ picked (map f rows) numbers
map-picked f rows [] = refl
map-picked {A} {B} f rows (number ∷ numbers) =
    map-before_others f (slice_get rows number) (picked rows numbers)
    ∙ ap (λ (others : List B). before_others (option_map f (slice_get rows number)) others) (map-picked f rows numbers)
    ∙ ap (λ (row : Option B). before_others row (picked (map f rows) numbers)) (sym (slice_get-map f rows number))

before_others-append : {X : Type 0} (found : List X) (row : Option X) (others : List X)
    → found ++ before_others row [] ++ others ≡ found ++ before_others row others
before_others-append {X} found None others = ap (λ (rows : List X). rows ++ others) (append-nil found)
before_others-append found (Some row) others = append_assoc found (row ∷ []) others

-- a row that was added comes before what the rest of the numbers add
pub picked_more : {X : Type 0} (rows found more : List X) (number : ℕ) (numbers : List ℕ) (all : List X)
    → more ≡ found ++ before_others (slice_get rows number) [] → found ++ picked rows (number ∷ numbers) ≡ all → more ++ picked rows numbers ≡ all
picked_more {X} rows found more number numbers all is before =
    ap (λ (held : List X). held ++ picked rows numbers) is
    ∙ before_others-append found (slice_get rows number) (picked rows numbers)
    ∙ before
