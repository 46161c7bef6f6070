use Rattle.std.proofs.Common.{◌∙◌, ap, pos, unsigned_abs}
use Rattle.std.specs.Int.{w32, w64, cast_signed, int_rem_euclid, int_wrap}
use Rattle.std.specs.Int.RustNames.{FitsSigned}
use Rattle.std.proofs.lemmas.Int.{to_z-of_z}
use Rattle.everyday_tput.proofs.numbers.low_bits.Goals as goal

pub returns : goal.returns
unfolding int_wrap
returns c =
    let fits : FitsSigned w32 c.cast_signed.result = record { sfits = c.cast_signed.type_inv } in
    let whole : FitsSigned w64 c.rem_euclid.result = record { sfits = c.rem_euclid.type_inv } in
    to_z-of_z w32 c.cast_signed.result fits ∙ c.cast_signed.ensures
    ∙ ap (λ x. cast_signed w32 (unsigned_abs x))
    (to_z-of_z w64 c.rem_euclid.result whole ∙ c.rem_euclid.ensures.value
    ∙ ap (λ n. int_rem_euclid n (pos 4294967296)) (to_z-of_z w64 c.args.number c.ranges.number))
