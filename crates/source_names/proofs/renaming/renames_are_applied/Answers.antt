use Rattle.source_names.proofs.Edited.{renames_applied}
use Rattle.source_names.proofs.renaming.renames_are_applied.Goals as goal

pub returns : goal.returns
returns c = renames_applied c.held_blocks_fit.ensures c.edits_keep_lines.ensures
