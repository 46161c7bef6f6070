use Rattle.source_fixes.proofs.OthersOwn.{others_own}
use Rattle.source_fixes.proofs.laws.names_are_of_other_blocks.Goals as goal

pub returns : goal.returns
returns c = others_own c.each_is_well_read.ensures
