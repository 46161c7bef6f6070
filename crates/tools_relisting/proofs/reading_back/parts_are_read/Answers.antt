use Rattle.tools_relisting.proofs.ReadBack.{parts_read}
use Rattle.tools_relisting.proofs.reading_back.parts_are_read.Goals as goal

pub returns : goal.returns
returns c = parts_read c.every_name_is_found.ensures c.written_spells.ensures c.one_reading.ensures.each c.one_reading.ensures.only
