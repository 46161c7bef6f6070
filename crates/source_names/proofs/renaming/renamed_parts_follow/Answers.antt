use Rattle.source_names.proofs.RenamesFollow.{renamed_follow}
use Rattle.source_names.proofs.renaming.renamed_parts_follow.Goals as goal

pub returns : goal.returns
returns c = renamed_follow c.held_blocks_fit.ensures
