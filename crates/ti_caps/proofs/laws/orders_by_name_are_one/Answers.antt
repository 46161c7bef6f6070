-- strictly sorted lists of the same capabilities are equal
use Rattle.ti_caps.proofs.NameOrder.{orders_are_one}
use Rattle.ti_caps.proofs.laws.orders_by_name_are_one.Goals as goal

pub returns : goal.returns
returns c = orders_are_one
