use Rattle.ti_param.proofs.Wrapping.{length-in_32_bits}
use Rattle.ti_param.proofs.arithmetic.wrapped_length.Goals as goal

pub returns : goal.returns
returns c = length-in_32_bits _ _ (record { sfits = c.cast_signed.type_inv }) c.cast_signed.ensures
