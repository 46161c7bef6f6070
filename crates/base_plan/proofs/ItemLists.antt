-- Lists read from an index on, and lists mapped.
use Rattle.std.proofs.Common.{◌≡◌, ℕ, suc, ◌+◌, ◌<◌, List, ◌∷◌, length, get_or, drop, map, Some, slice_get, All, refl, sym, ◌∙◌, ap, subst, drop-cons, arith}
use Rattle.std.proofs.lemmas.List.{length-map}
use Rattle.std.proofs.lemmas.Option.{slice_get_read}
use Rattle.std.proofs.Math.ListN.{get_or-map}
pub use Rattle.ti_text.proofs.Lists.{map-take_item}

-- what holds of each image holds of an item's
pub All-map_item : {X Y : Type 0} (P : Y → Type 0) (f : X → Y) (xs : List X) (i : ℕ) (x : X) → i < length xs → x ≡ get_or xs i x → All P (map f xs) → P (f x)
All-map_item P f xs i x l e h =
    let within : i < length (map f xs) = rw (length-map xs f) l in
    subst P (get_or-map f xs i x ∙ ap f (sym e)) (h i (f x) within)

pub slice_get-map_item : {X Y : Type 0} (f : X → Y) (xs : List X) (i : ℕ) (x : X) → i < length xs → x ≡ get_or xs i x → slice_get (map f xs) i ≡ Some (f x)
slice_get-map_item f xs i x l e =
    slice_get_read (map f xs) (length (map f xs)) i (f x) refl (rw (length-map xs f) l) (ap f e ∙ sym (get_or-map f xs i x))

-- what is left before an index is its item and what is left after it
pub drop_item : {X : Type 0} (xs : List X) (i : ℕ) (x : X) → i < length xs → x ≡ get_or xs i x → drop i xs ≡ x ∷ drop (i + 1) xs
drop_item xs i x l e = drop-cons xs i x l ∙ (let f : suc i ≡ i + 1 = omega arith in rw (f, ← e) refl)

pub map-drop_item : {X Y : Type 0} (f : X → Y) (xs : List X) (i : ℕ) (x : X) → i < length xs → x ≡ get_or xs i x
    → map f (drop i xs) ≡ f x ∷ map f (drop (i + 1) xs)
map-drop_item f xs i x l e = ap (map f) (drop_item xs i x l e)
