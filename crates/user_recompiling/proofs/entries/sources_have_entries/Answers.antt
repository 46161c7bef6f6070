use Rattle.user_recompiling.proofs.Sources.{of_sources}
use Rattle.user_recompiling.proofs.entries.sources_have_entries.Goals as goal

pub returns : goal.returns
returns c = of_sources c.blocks_are_single.ensures
