-- Lists read up to an index and from it on, with what is known of their items.
use Rattle.std.proofs.Common.{◌≡◌, ℕ, ◌+◌, List, [], ◌∷◌, ◌++◌, take, drop, map, Some, slice_get, refl, sym, ◌∙◌, ap}
use Rattle.std.proofs.lemmas.List.{map-append, take_more}
use Rattle.std.proofs.lemmas.Option.{slice_get_within, get_or_from_slice_get}
use Rattle.base_plan.proofs.ItemLists.{drop_item, map-take_item}

pub map-take_get : {X Y : Type 0} (f : X → Y) (xs : List X) (i : ℕ) (x : X) → slice_get xs i ≡ Some x → map f (take (i + 1) xs) ≡ map f (take i xs) ++ f x ∷ []
map-take_get f xs i x e = map-take_item f xs i x (slice_get_within xs i x e) (sym (get_or_from_slice_get xs i x x e))

-- one more item and its image go with the images so far
pub images_more : {X Y Z : Type 0} (f : X → Z) (g : Y → Z) (xs : List X) (ys : List Y) (i : ℕ) (x : X) (y : Y) → map g ys ≡ map f (take i xs)
    → slice_get xs i ≡ Some x → g y ≡ f x → map g (ys ++ y ∷ []) ≡ map f (take (i + 1) xs)
images_more f g xs ys i x y h e same = rw (map-append g ys (y ∷ []), map-take_get f xs i x e, h, same) refl

pub drop_get : {X : Type 0} (xs : List X) (i : ℕ) (x : X) → slice_get xs i ≡ Some x → drop i xs ≡ x ∷ drop (i + 1) xs
drop_get xs i x e = drop_item xs i x (slice_get_within xs i x e) (sym (get_or_from_slice_get xs i x x e))

pub take_get : {X : Type 0} (xs : List X) (i : ℕ) (x : X) → slice_get xs i ≡ Some x → take (i + 1) xs ≡ take i xs ++ x ∷ []
take_get xs i x e =
    take_more xs i x (slice_get_within xs i x e) ∙ ap (λ y. take i xs ++ y ∷ []) (get_or_from_slice_get xs i x x e)
