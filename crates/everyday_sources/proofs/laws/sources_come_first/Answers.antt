use Rattle.everyday_sources.proofs.Taking.{sources_come_first}
use Rattle.everyday_sources.proofs.laws.sources_come_first.Goals as goal

pub returns : goal.returns
returns c = sources_come_first
