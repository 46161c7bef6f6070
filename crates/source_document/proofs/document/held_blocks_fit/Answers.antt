use Rattle.source_document.proofs.HeldBlocks.{held_blocks}
use Rattle.source_document.proofs.document.held_blocks_fit.Goals as goal

pub returns : goal.returns
returns c = held_blocks c.each_has_cut.ensures c.blocks_are_single.ensures c.ended_texts_end.ensures
