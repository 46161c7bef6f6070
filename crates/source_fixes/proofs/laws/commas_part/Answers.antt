use Rattle.source_fixes.proofs.Commas.{commas_part}
use Rattle.source_fixes.proofs.laws.commas_part.Goals as goal

pub returns : goal.returns
returns c = commas_part c.held_blocks_fit.ensures c.edits_keep_lines.ensures
