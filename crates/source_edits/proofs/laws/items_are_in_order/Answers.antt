use Rattle.source_edits.proofs.InOrder.{items_in_order}
use Rattle.source_edits.proofs.laws.items_are_in_order.Goals as goal

pub returns : goal.returns
returns c = items_in_order
