use Rattle.tools_relisting.proofs.Sources.{of_sources}
use Rattle.tools_relisting.proofs.entries.sources_have_entries.Goals as goal

pub returns : goal.returns
returns c = of_sources c.blocks_are_single.ensures
