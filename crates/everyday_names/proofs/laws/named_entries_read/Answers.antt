use Rattle.everyday_names.proofs.Named.{named_entries_read}
use Rattle.everyday_names.proofs.laws.named_entries_read.Goals as goal

pub returns : goal.returns
returns c = named_entries_read
