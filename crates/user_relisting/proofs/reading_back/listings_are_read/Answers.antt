use Rattle.user_relisting.proofs.Listed.{listings_read}
use Rattle.user_relisting.proofs.reading_back.listings_are_read.Goals as goal

pub returns : goal.returns
returns c = listings_read c.each_kind_is_in_order.ensures c.items_are_read.ensures
