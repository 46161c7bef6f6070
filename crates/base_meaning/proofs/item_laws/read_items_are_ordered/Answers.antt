use Rattle.base_meaning.proofs.ReadOrder.{ordered_items}
use Rattle.base_meaning.proofs.item_laws.read_items_are_ordered.Goals as goal

pub returns : goal.returns
returns c = ordered_items
