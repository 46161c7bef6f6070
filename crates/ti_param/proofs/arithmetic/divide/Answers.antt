use Rattle.std.proofs.Common.{◌≡◌, false}
use Rattle.ti_param.specs.Meaning.{is_zero}
use Rattle.ti_param.proofs.Wrapping.{quotient-in_32_bits, not-zero}
use Rattle.ti_param.proofs.arithmetic.divide.Goals as goal

pub returns-else-y-eq0 : goal.returns-else-y-eq0
returns-else-y-eq0 c =
    let not_zero : is_zero c.args.y ≡ false = not-zero c.args.y c.if-y-eq0.false in
    rw not_zero (quotient-in_32_bits _ _ _ c.ranges.x c.ranges.y (record { sfits = c.wrapping_div.type_inv }) c.wrapping_div.ensures)
