use Rattle.user_relisting.proofs.Related.{relatives_read}
use Rattle.user_relisting.proofs.reading_back.relatives_are_read.Goals as goal

pub returns : goal.returns
returns c = relatives_read c.each_kind_is_in_order.ensures c.items_are_read.ensures
