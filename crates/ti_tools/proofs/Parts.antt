-- Parts of a text that are written one after another.
use Rattle.std.proofs.Common.{◌≡◌, ℕ, ◌+◌, ◌<◌, List, [], ◌∷◌, ◌++◌, length, map, take, drop, get_or, refl, sym, ap, ◌∙◌, append-nil, append_assoc}
use Rattle.std.specs.List.{concat}
use Rattle.std.proofs.lemmas.List.{map-append, take-append-drop, take_more, drop_more}
use Rattle.std.proofs.lemmas.List.Folds.{concat-append}

-- the parts up to one more
pub parts-more : {X : Type 0} (f : X → List ℕ) (xs : List X) (i : ℕ) (d : X) → i < length xs
    → concat (map f (take (i + 1) xs)) ≡ concat (map f (take i xs)) ++ f (get_or xs i d)
parts-more f xs i d low =
    rw (take_more xs i d low, map-append f (take i xs) (get_or xs i d ∷ []), concat-append (map f (take i xs)) (f (get_or xs i d) ∷ []), append-nil) refl

-- and all of them
pub parts-whole : {X : Type 0} (f : X → List ℕ) (xs : List X) (i : ℕ) (d : X) → i < length xs
    → concat (map f xs) ≡ (concat (map f (take i xs)) ++ f (get_or xs i d)) ++ concat (map f (drop (i + 1) xs))
parts-whole f xs i d low =
    ap (λ ys. concat (map f ys)) (sym (take-append-drop i xs))
    ∙ ap concat (map-append f (take i xs) (drop i xs))
    ∙ concat-append (map f (take i xs)) (map f (drop i xs))
    ∙ ap (λ ys. concat (map f (take i xs)) ++ concat (map f ys)) (drop_more xs i d low)
    ∙ sym (append_assoc (concat (map f (take i xs))) (f (get_or xs i d)) (concat (map f (drop (i + 1) xs))))
