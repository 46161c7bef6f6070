use Rattle.source_blocks.proofs.SaidAlong.{says_it}
use Rattle.source_blocks.proofs.deciding.deciders_say_it.Goals as goal

pub returns : goal.returns
returns c = says_it
