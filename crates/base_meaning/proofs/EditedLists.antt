-- What holds of a list after an item is put in, exchanged or taken out.
use Rattle.std.proofs.Common.{◌≡◌, ℕ, zero, suc, ◌<◌, ◌≤◌, List, [], ◌∷◌, length, get_or, take, drop, set, map, All, Option, Some, None, option_map}
use Rattle.std.proofs.Common.{slice_get, refl, sym, ◌∙◌, ap, subst, arith}
use Rattle.std.specs.List.{insert, remove, take-map, drop-map}
use Rattle.std.specs.Option.{option_map_or}
use Rattle.std.proofs.lemmas.Option.{same_Some, none-some, slice_get-map, slice_get_within, get_or_from_slice_get}
use Rattle.std.proofs.lemmas.List.Edits.{length-insert, length-remove}
use Rattle.base_meaning.specs.Edits.{with_item_moved}
use Rattle.std.proofs.lemmas.List.{map-append, map-set, set-set, set-get_or}
use Rattle.std.proofs.lemmas.List.Elements.{All-append, All-take, All-drop, All-cons}

pub map-insert : {X Y : Type 0} (f : X → Y) (xs : List X) (i : ℕ) (x : X) → map f (insert xs i x) ≡ insert (map f xs) i (f x)
map-insert f xs i x = rw (map-append f (take i xs) (x ∷ drop i xs), take-map f i xs, drop-map f i xs) refl

pub map-remove : {X Y : Type 0} (f : X → Y) (xs : List X) (i : ℕ) → map f (remove xs i) ≡ remove (map f xs) i
map-remove f xs i = rw (map-append f (take i xs) (drop (suc i) xs), take-map f i xs, drop-map f (suc i) xs) refl

-- what is put in and taken out leaves the list
pub remove-insert : {X : Type 0} (xs : List X) (i : ℕ) (x : X) → i ≤ length xs → remove (insert xs i x) i ≡ xs
remove-insert [] zero x l = refl
remove-insert [] (suc i) x l = absurd (omega arith)
remove-insert (y ∷ ys) zero x l = refl
remove-insert (y ∷ ys) (suc i) x l = ap (λ zs. y ∷ zs) (remove-insert ys i x (omega arith))

-- what is taken out and put back leaves the list
pub insert-remove : {X : Type 0} (xs : List X) (at : ℕ) (x : X) → slice_get xs at ≡ Some x → insert (remove xs at) at x ≡ xs
insert-remove [] at x e = absurd (none-some x e)
insert-remove (y ∷ ys) zero x e = ap (λ z. z ∷ ys) (sym (same_Some y x e))
insert-remove (y ∷ ys) (suc at) x e = ap (λ zs. y ∷ zs) (insert-remove ys at x e)

-- what is exchanged and exchanged back leaves the list
pub set-back : {X : Type 0} (xs : List X) (i : ℕ) (x y : X) → y ≡ get_or xs i y → set (set xs i x) i y ≡ xs
set-back xs i x y e = set-set xs i x y ∙ (ap (λ z. set xs i z) e ∙ set-get_or xs i y)

pub All-insert : {X : Type 0} (P : X → Type 0) (xs : List X) (i : ℕ) (x : X) → All P xs → P x → All P (insert xs i x)
All-insert P xs i x h p = All-append P (take i xs) (x ∷ drop i xs) (All-take P i xs h) (All-cons P x (drop i xs) p (All-drop P i xs h))

pub All-remove : {X : Type 0} (P : X → Type 0) (xs : List X) (i : ℕ) → All P xs → All P (remove xs i)
All-remove P xs i h = All-append P (take i xs) (drop (suc i) xs) (All-take P i xs h) (All-drop P (suc i) xs h)

-- ---- images of edited lists

pub images_inserted : {X Y : Type 0} (f : X → Y) (old reserved new : List X) (at : ℕ) (x : X) (y : Y) → new ≡ insert reserved at x → reserved ≡ old
    → f x ≡ y → map f new ≡ insert (map f old) at y
images_inserted f old reserved new at x y e r s =
    ap (λ xs. map f xs) e ∙ (ap (λ xs. map f (insert xs at x)) r ∙ (map-insert f old at x ∙ ap (λ z. insert (map f old) at z) s))

pub images_replaced : {X Y : Type 0} (f : X → Y) (old new : List X) (at : ℕ) (x : X) (y : Y) → new ≡ set old at x → f x ≡ y → map f new ≡ set (map f old) at y
images_replaced f old new at x y e s = ap (λ xs. map f xs) e ∙ (map-set f old at x ∙ ap (λ z. set (map f old) at z) s)

pub images_removed : {X Y : Type 0} (f : X → Y) (old new : List X) (at : ℕ) → new ≡ remove old at → map f new ≡ remove (map f old) at
images_removed f old new at e = ap (λ xs. map f xs) e ∙ map-remove f old at

-- ---- a moved item

relocated-some : {X : Type 0} (xs : List X) (from to : ℕ) (x : X) → slice_get xs from ≡ Some x → with_item_moved xs from to ≡ insert (remove xs from) to x
relocated-some xs from to x e = rw e refl

pub map-relocated : {X Y : Type 0} (f : X → Y) (xs : List X) (from to : ℕ) → map f (with_item_moved xs from to) ≡ with_item_moved (map f xs) from to
map-relocated f xs from to = rw (slice_get-map f xs from) (by_case (slice_get xs from)) where
  by_case : (o : Option _) → map f (option_map_or (λ x. insert (remove xs from) to x) o xs)
      ≡ option_map_or (λ y. insert (remove (map f xs) from) to y) (option_map f o) (map f xs)
  by_case None = refl
  by_case (Some x) = map-insert f (remove xs from) to x ∙ ap (λ ys. insert ys to (f x)) (map-remove f xs from)

pub All-relocated : {X : Type 0} (P : X → Type 0) (xs : List X) (from to : ℕ) → All P xs → All P (with_item_moved xs from to)
All-relocated P xs from to h =
    elim (slice_get xs from) as (λ o. slice_get xs from ≡ o → All P (option_map_or (λ x. insert (remove xs from) to x) o xs)) [
      | None ↦ λ e. h
      | Some x ↦ λ e. All-insert P (remove xs from) to x (All-remove P xs from h)
          (subst P (get_or_from_slice_get xs from x x e) (h from x (slice_get_within xs from x e)))
    ] refl

pub length-relocated : {X : Type 0} (xs : List X) (from to : ℕ) → from < length xs → to < length xs → length (with_item_moved xs from to) ≡ length xs
length-relocated xs from to l m =
    elim (slice_get xs from) as (λ o. length (option_map_or (λ x. insert (remove xs from) to x) o xs) ≡ length xs) [
      | None ↦ refl
      | Some x ↦
          let n = length-remove xs from l in
          let k = length-insert (remove xs from) to x (let w : to ≤ length (remove xs from) = omega arith in w) in
          omega arith
    ]

-- what is moved and moved back leaves the list
pub relocated-back : {X : Type 0} (xs : List X) (from to : ℕ) → from < length xs → to < length xs → with_item_moved (with_item_moved xs from to) to from ≡ xs
relocated-back xs from to l m =
    let x = slice_get_some xs from l in
    let n = length-remove xs from l in
    let w : to ≤ length (remove xs from) = omega arith in
    let once = relocated-some xs from to x.0 x.1 in
    ap (λ ys. with_item_moved ys to from) once
    ∙ (relocated-some (insert (remove xs from) to x.0) to from x.0 (get_inserted (remove xs from) to x.0 w)
    ∙ (ap (λ ys. insert ys from x.0) (remove-insert (remove xs from) to x.0 w) ∙ insert-remove xs from x.0 x.1))
  where
    slice_get_some : {X : Type 0} (xs : List X) (i : ℕ) → i < length xs → (x : X) × (slice_get xs i ≡ Some x)
    slice_get_some [] i l = absurd (omega arith)
    slice_get_some (x ∷ xs) zero l = (x, refl)
    slice_get_some (x ∷ xs) (suc i) l = slice_get_some xs i (omega arith)

    get_inserted : {X : Type 0} (xs : List X) (i : ℕ) (x : X) → i ≤ length xs → slice_get (insert xs i x) i ≡ Some x
    get_inserted xs zero x l = refl
    get_inserted [] (suc i) x l = absurd (omega arith)
    get_inserted (y ∷ ys) (suc i) x l = get_inserted ys i x (omega arith)

pub images_relocated : {X Y : Type 0} (f : X → Y) (old new : List X) (from to : ℕ) → new ≡ with_item_moved old from to
    → map f new ≡ with_item_moved (map f old) from to
images_relocated f old new from to e = ap (λ xs. map f xs) e ∙ map-relocated f old from to
