use Rattle.std.proofs.Common.{◌∙◌, ap}
use Rattle.std.specs.Int.{w32, w64}
use Rattle.std.specs.Int.RustNames.{FitsSigned}
use Rattle.std.proofs.lemmas.Int.{to_z-of_z}
use Rattle.ti_param.specs.Meaning.{in_32_bits}
use Rattle.everyday_tput.specs.Numbers.{signed_number, word_number}
use Rattle.everyday_tput.proofs.Digits.{spelled, unspelled}
use Rattle.everyday_tput.proofs.numbers.word_number.Goals as goal

pub returns-in-Some : goal.returns-in-Some
unfolding word_number
returns-in-Some c =
    let fits : FitsSigned w32 c.low_bits.result = record { sfits = c.low_bits.type_inv } in
    let whole : FitsSigned w64 c.in_long.result = record { sfits = c.in_long.type_inv } in
    let text = c.after_space.result.now in
    let said = spelled text c.sign-negative.result.1.now c.base_and_digits-base.result.1.now c.base_and_digits-base.result.0 c.sign-negative.result.0
    c.sign-negative.ensures.rest c.base_and_digits-base.ensures.base c.base_and_digits-base.ensures.digits c.sign-negative.ensures.negative c.in-Some.number
    c.in-Some.ensures.0 c.in-Some.ensures.1 in
    to_z-of_z w32 c.low_bits.result fits ∙ c.low_bits.ensures ∙ ap in_32_bits (to_z-of_z w64 c.in_long.result whole ∙ c.in_long.ensures) ∙ said
    ∙ ap signed_number c.after_space.ensures

pub returns-in-None : goal.returns-in-None
unfolding word_number
returns-in-None c =
    unspelled c.after_space.result.now c.sign-negative.result.1.now c.base_and_digits-base.result.1.now c.base_and_digits-base.result.0
    c.sign-negative.result.0 c.sign-negative.ensures.rest c.base_and_digits-base.ensures.base c.base_and_digits-base.ensures.digits
    c.sign-negative.ensures.negative c.in-None.ensures
    ∙ ap signed_number c.after_space.ensures
