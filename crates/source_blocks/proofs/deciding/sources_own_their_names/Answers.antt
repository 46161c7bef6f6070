use Rattle.source_blocks.proofs.Sources.{own_their_names}
use Rattle.source_blocks.proofs.deciding.sources_own_their_names.Goals as goal

pub returns : goal.returns
returns c = own_their_names
