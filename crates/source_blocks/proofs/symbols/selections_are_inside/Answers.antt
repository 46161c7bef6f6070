use Rattle.source_blocks.proofs.Selections.{selections_inside}
use Rattle.source_blocks.proofs.symbols.selections_are_inside.Goals as goal

pub returns : goal.returns
returns c = selections_inside c.held_blocks_fit.ensures
