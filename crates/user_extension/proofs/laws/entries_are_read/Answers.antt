use Rattle.user_extension.proofs.LawOfEntries.{entries_are_read}
use Rattle.user_extension.proofs.laws.entries_are_read.Goals as goal

pub returns : goal.returns
returns c = entries_are_read
