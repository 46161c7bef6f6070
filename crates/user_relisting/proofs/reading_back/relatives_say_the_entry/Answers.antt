use Rattle.user_relisting.proofs.Restoring.{relatives_say}
use Rattle.user_relisting.proofs.reading_back.relatives_say_the_entry.Goals as goal

pub returns : goal.returns
returns c = relatives_say
