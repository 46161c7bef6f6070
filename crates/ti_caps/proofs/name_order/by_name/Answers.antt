-- the table's index leads to the capability
use Rattle.std.proofs.Common.{arith}
use Rattle.std.proofs.lemmas.Grind.{common_steps}
use Rattle.std.proofs.lemmas.Option.{gets}
use Rattle.ti_caps.proofs.KindOrder.{by_place}
use Rattle.ti_caps.proofs.name_order.by_name.Goals as goal

pub returns : goal.returns
returns c = by_place _ _ _ _ _ c.indexes_by_name.ensures (grind (arith, common_steps, gets)) c.at.ensures.within c.at.ensures.value
