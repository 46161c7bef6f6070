use Rattle.user_relisting.proofs.ReadBack.{profile_read}
use Rattle.user_relisting.proofs.reading_back.items_are_read_by_the_profile.Goals as goal

pub returns : goal.returns
returns c = profile_read c.every_name_is_found.ensures c.written_spells.ensures c.one_reading.ensures.each c.one_reading.ensures.only
