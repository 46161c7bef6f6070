use Rattle.user_relisting.proofs.Standing.{items_stand}
use Rattle.user_relisting.proofs.reading_back.items_are_blocks.Goals as goal

pub returns : goal.returns
returns c = items_stand c.every_name_is_found.ensures c.written_spells.ensures
