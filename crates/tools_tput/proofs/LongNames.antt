-- The part of a names field after its last `|`.
use Rattle.std.proofs.Common.{◌≡◌, ℕ, ◌+◌, ◌-◌, ◌<◌, Bool, true, false, not, List, length, take, drop, get_or, refl, sym, subst, ap, ◌∙◌, eqb, arith}
use Rattle.std.specs.List.{suffix_len}
use Rattle.std.proofs.lemmas.List.{take_all, length-drop}
use Rattle.std.proofs.lemmas.List.Sums.{suffix_len_is}
use Rattle.memchr.specs.Find.{Nowhere, NoneAfter, Passes, is_byte}
use Rattle.tools_tput.specs.Results.{long_name}

not_passing : (b : Bool) → (b ≡ true → ⊥) → not b ≡ true
not_passing true bad = absurd (bad refl)
not_passing false bad = refl

pub long_name-after : (names : List ℕ) (bar : ℕ) → NoneAfter (Passes (is_byte 124) names) 0 (length names) bar
    → Passes (is_byte 124) names bar
    → take (length names - (bar + 1)) (drop (bar + 1) names) ≡ long_name names
long_name-after names bar found passes =
    let high : bar < length names = found.high in
    let all : take (length names - (bar + 1)) (drop (bar + 1) names) ≡ drop (bar + 1) names =
    take_all _ _ (omega (arith, length-drop (bar + 1) names)) in
    let len : suffix_len (λ x. not (eqb x 124)) names ≡ length names - (bar + 1) =
    suffix_len_is (λ x. not (eqb x 124)) names (bar + 1) 0 (omega arith)
    (λ k low below. not_passing _ (found.after k low below)) (λ some. let P : ℕ → Type 0 = λ n. not (eqb (get_or names n 0) 124) ≡ false in
    let same : bar + 1 - 1 ≡ bar = omega arith in
    subst P (sym same) (ap not passes)) in
    let start : length names - suffix_len (λ x. not (eqb x 124)) names ≡ bar + 1 = omega arith in
    all ∙ ap (λ (n : ℕ). drop n names) (sym start)

pub long_name-whole : (names : List ℕ) → Nowhere (Passes (is_byte 124) names) 0 (length names) → names ≡ long_name names
long_name-whole names none =
    let len : suffix_len (λ x. not (eqb x 124)) names ≡ length names - 0 =
    suffix_len_is (λ x. not (eqb x 124)) names 0 0 (omega arith)
    (λ k low below. not_passing _ (none k low below)) (λ some. absurd (omega arith)) in
    let start : length names - suffix_len (λ x. not (eqb x 124)) names ≡ 0 = omega arith in
    ap (λ (n : ℕ). drop n names) (sym start)
