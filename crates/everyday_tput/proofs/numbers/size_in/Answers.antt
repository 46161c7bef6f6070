use Rattle.std.proofs.Common.{◌≡◌, ◌∙◌, List, ℕ, Some, None, ap, subst}
use Rattle.std.specs.Str.Parse.{without_leading_plus}
use Rattle.everyday_tput.specs.Numbers.{decimal_size, size_in}
use Rattle.everyday_tput.proofs.Digits.{no_size, sized, too_large, zero_size}
use Rattle.everyday_tput.proofs.numbers.size_in.Goals as goal

pub returns-in-Some : goal.returns-in-Some
unfolding size_in
returns-in-Some c =
    subst (λ (digits : List ℕ). Some c.in-Some.number ≡ decimal_size digits) (c.without_plus.ensures ∙ ap without_leading_plus c.after_space.ensures)
    (sized c.without_plus.result.now c.in-Some.number c.in-Some.ensures.0 c.in-Some.ensures.1 c.if-number-gt0.true c.if-number-le-SIZE_MAX.true)

pub returns-in_default : goal.returns-in_default
unfolding size_in
returns-in_default c =
    subst (λ (digits : List ℕ). None ≡ decimal_size digits) (c.without_plus.ensures ∙ ap without_leading_plus c.after_space.ensures)
    (too_large c.without_plus.result.now c.in-Some.number c.in-Some.ensures.0 c.in-Some.ensures.1 c.if-number-le-SIZE_MAX.false)

pub returns-in_default-2 : goal.returns-in_default-2
unfolding size_in
returns-in_default-2 c =
    subst (λ (digits : List ℕ). None ≡ decimal_size digits) (c.without_plus.ensures ∙ ap without_leading_plus c.after_space.ensures)
    (zero_size c.without_plus.result.now c.in-Some.number c.in-Some.ensures.0 c.in-Some.ensures.1 c.if-number-gt0.false)

pub returns-in_default-3 : goal.returns-in_default-3
unfolding size_in
returns-in_default-3 c =
    subst (λ (digits : List ℕ). None ≡ decimal_size digits) (c.without_plus.ensures ∙ ap without_leading_plus c.after_space.ensures)
    (no_size c.without_plus.result.now c.in_default.ensures)
