use Rattle.base_meaning.proofs.OrderProofs.{ordered_faults}
use Rattle.base_meaning.proofs.laws.item_faults_are_in_order.Goals as goal

pub returns : goal.returns
returns c = ordered_faults
