use Rattle.ti_source.proofs.CutLemmas.{blocks_are_single_once_ended_law}
use Rattle.ti_source.proofs.laws.blocks_are_single_once_ended.Goals as goal

pub returns : goal.returns
returns c = blocks_are_single_once_ended_law
