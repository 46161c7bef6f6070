-- White space is taken off the end of a text byte by byte.
use Rattle.std.proofs.Common.{◌≡◌, ℕ, ◌+◌, ◌-◌, ◌<◌, true, false, ◌&&◌, List, [], ◌∷◌, ◌++◌, length, take, get_or, refl, sym, ap, ◌∙◌, arith}
use Rattle.std.specs.List.{list_all}
use Rattle.std.proofs.lemmas.Bool.{and_right}
use Rattle.std.proofs.Math.Bool.{and-true}
use Rattle.std.proofs.lemmas.List.{take_all, take_more}
use Rattle.std.proofs.lemmas.List.Folds.{list_all-append}
use Rattle.ti_text.specs.WhiteSpace.{is_white_space}
use Rattle.ti_spelling.specs.WhiteSpace.{without_trailing_space}

trimmed-white : (s : List ℕ) (x : ℕ) → is_white_space x ≡ true → without_trailing_space (s ++ x ∷ []) ≡ without_trailing_space s
trimmed-white [] x t = let one = and-true (is_white_space x) ∙ t in rw one refl
trimmed-white (y ∷ ys) x t =
    let all : list_all is_white_space (ys ++ x ∷ []) ≡ list_all is_white_space ys =
    list_all-append is_white_space ys (x ∷ []) ∙ ap (λ b. list_all is_white_space ys && b) (and-true (is_white_space x) ∙ t) ∙ and-true _ in
    rw (all, trimmed-white ys x t) refl

trimmed-other : (s : List ℕ) (x : ℕ) → is_white_space x ≡ false → without_trailing_space (s ++ x ∷ []) ≡ s ++ x ∷ []
trimmed-other [] x f = rw f refl
trimmed-other (y ∷ ys) x f =
    let all : list_all is_white_space (ys ++ x ∷ []) ≡ false =
    list_all-append is_white_space ys (x ∷ []) ∙ and_right (list_all is_white_space ys) _ (and-true (is_white_space x) ∙ f) in
    let none = and_right (is_white_space y) _ all in
    rw none (ap (λ r. y ∷ r) (trimmed-other ys x f))

-- a text that is not empty is all but its last byte, and that byte
but_last : (s : List ℕ) → 0 < length s → s ≡ take (length s - 1) s ++ get_or s (length s - 1) 0 ∷ []
but_last s h =
    let i = length s - 1 in
    sym (take_all (i + 1) s (omega arith)) ∙ take_more s i 0 (omega arith)

pub trim_step : (s : List ℕ) → 0 < length s → is_white_space (get_or s (length s - 1) 0) ≡ true
    → without_trailing_space (take (length s - 1) s) ≡ without_trailing_space s
trim_step s h t = sym (ap without_trailing_space (but_last s h) ∙ trimmed-white (take (length s - 1) s) _ t)

pub trim_stop : (s : List ℕ) → 0 < length s → is_white_space (get_or s (length s - 1) 0) ≡ false → s ≡ without_trailing_space s
trim_stop s h f = but_last s h ∙ sym (ap without_trailing_space (but_last s h) ∙ trimmed-other (take (length s - 1) s) _ f)
