use Rattle.user_compiling.proofs.ReadBack.{entries_read_back}
use Rattle.user_compiling.proofs.laws.entries_read_back.Goals as goal

pub returns : goal.returns
returns c = entries_read_back c.each_is_well_read.ensures c.each_user_reading_is_sound.ensures c.entries_are_read.ensures
