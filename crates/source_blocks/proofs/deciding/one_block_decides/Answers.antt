use Rattle.source_blocks.proofs.Deciders.{one_decides}
use Rattle.source_blocks.proofs.deciding.one_block_decides.Goals as goal

pub returns : goal.returns
returns c = one_decides
