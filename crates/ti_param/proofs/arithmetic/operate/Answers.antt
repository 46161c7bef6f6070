use Rattle.std.specs.Int.{w32}
use Rattle.std.proofs.lemmas.Int.{wrapping_add_is, wrapping_sub_is}
use Rattle.ti_param.proofs.arithmetic.operate.Goals as goal

pub returns-in-Add : goal.returns-in-Add
returns-in-Add c = rw c.in-Add.is (wrapping_add_is w32 _ _ c.ranges.x c.ranges.y)

pub returns-in-Subtract : goal.returns-in-Subtract
returns-in-Subtract c = rw c.in-Subtract.is (wrapping_sub_is w32 _ _ c.ranges.x c.ranges.y)
