-- Rising lists.
use Rattle.std.proofs.Common.{◌≡◌, ℕ, suc, ◌<◌, ◌≤◌, ◌⊎◌, inl, inr, List, [], ◌∷◌, ◌++◌, length, take, Some, slice_get, sym, ◌∙◌, ap, arith}
use Rattle.std.proofs.lemmas.Option.{same_Some, slice_get_within}
use Rattle.std.proofs.lemmas.Bool.{cases_lt}
use Rattle.ti_text.specs.Lists.{Has}
use Rattle.ti_text.proofs.Lists.{push_cases, get-take, take_get}
use Rattle.base_components.specs.inside.Search.{Rises}

pub Rises_push : (xs : List ℕ) (y : ℕ) → Rises xs → ((x : ℕ) → Has xs x → x < y) → Rises (xs ++ y ∷ [])
Rises_push xs y h below i j a b l e f =
    elim (push_cases xs y j b f) [
      | inl late ↦ elim (push_cases xs y i a e) [
        | inl early ↦ h i j a b l early late
        | inr last ↦ (let m = slice_get_within xs j b late in let s = last.0 in absurd (omega arith))
      ]
      | inr last ↦ elim (push_cases xs y i a e) [
        | inl early ↦ (let m = below a (i, early) in let s = last.1 in omega arith)
        | inr same ↦ (let s = last.0 in let t = same.0 in absurd (omega arith))
      ]
    ]

pub Rises_take : (n : ℕ) (xs : List ℕ) → Rises xs → Rises (take n xs)
Rises_take n xs h i j a b l e f = h i j a b l (take_get n xs i a e).1 (take_get n xs j b f).1

-- the last of a rising list is the greatest
pub rising_last : (xs : List ℕ) (top y x : ℕ) → Rises xs → length xs ≡ suc top → slice_get xs top ≡ Some y → Has xs x → x ≤ y
rising_last xs top y x h n e w =
    let near = slice_get_within xs w.0 x w.1 in
    elim (cases_lt w.0 top) [
      | inl below ↦ (let m = h w.0 top x y below w.1 e in omega arith)
      | inr above ↦
          let same : w.0 ≡ top = omega arith in
          let one : x ≡ y = same_Some x y (sym w.1 ∙ (ap (slice_get xs) same ∙ e)) in
          omega arith
    ]

-- without its last element, a list has all but that
pub but_last : (xs : List ℕ) (top y x : ℕ) → length xs ≡ suc top → slice_get xs top ≡ Some y → Has xs x → Has (take top xs) x ⊎ (x ≡ y)
but_last xs top y x n e w =
    let near = slice_get_within xs w.0 x w.1 in
    elim (cases_lt w.0 top) [
      | inl below ↦ inl (w.0, get-take top xs w.0 x below w.1)
      | inr above ↦
          let same : w.0 ≡ top = omega arith in
          inr (same_Some x y (sym w.1 ∙ (ap (slice_get xs) same ∙ e)))
    ]

pub take_last_lacks : (xs : List ℕ) (top y x : ℕ) → Rises xs → slice_get xs top ≡ Some y → Has (take top xs) x → Has xs x × (x < y)
take_last_lacks xs top y x h e w =
    let t = take_get top xs w.0 x w.1 in ((w.0, t.1), h w.0 top x y t.0 t.1 e)
