-- the sorted capabilities of a kind are its order by name
use Rattle.ti_caps.proofs.NameOrder.{in_order}
use Rattle.ti_caps.proofs.laws.each_kind_is_in_order.Goals as goal

pub returns : goal.returns
returns c = in_order
