use Rattle.source_plain.proofs.Returns.{other_systems}
use Rattle.source_plain.proofs.laws.sources_of_other_systems_are_read.Goals as goal

pub returns : goal.returns
returns c = other_systems
