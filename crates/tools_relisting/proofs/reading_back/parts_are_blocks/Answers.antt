use Rattle.tools_relisting.proofs.Standing.{parts_stand}
use Rattle.tools_relisting.proofs.reading_back.parts_are_blocks.Goals as goal

pub returns : goal.returns
returns c = parts_stand c.every_name_is_found.ensures c.written_spells.ensures
