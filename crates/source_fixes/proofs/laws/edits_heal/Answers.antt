use Rattle.source_fixes.proofs.EditsMend.{edits_mend}
use Rattle.source_fixes.proofs.laws.edits_heal.Goals as goal

pub returns : goal.returns
returns c = edits_mend c.one_outcome.ensures.values c.written_spells.ensures c.each_is_well_read.ensures
