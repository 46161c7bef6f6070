use Rattle.ti_spelling.proofs.ValueLaws.{values_are_sound}
use Rattle.user_items.proofs.Sound.{sound_readings}
use Rattle.user_items.proofs.laws.each_user_reading_is_sound.Goals as goal

pub returns : goal.returns
returns c = sound_readings values_are_sound c.each_is_well_read.ensures
