use Rattle.user_relisting.proofs.ReadBack.{items_read}
use Rattle.user_relisting.proofs.reading_back.items_are_read.Goals as goal

pub returns : goal.returns
returns c = items_read c.every_name_is_found.ensures c.written_spells.ensures c.one_user_reading.ensures
