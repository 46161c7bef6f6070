use Rattle.base_meaning.proofs.KeptFaults.{kept_block}
use Rattle.base_meaning.proofs.edit_laws.untouched_blocks_are_kept.Goals as goal

pub returns : goal.returns
returns c = kept_block
