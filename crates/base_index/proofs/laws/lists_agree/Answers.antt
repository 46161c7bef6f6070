use Rattle.base_index.proofs.LawProofs.{agreeing_lists}
use Rattle.base_index.proofs.laws.lists_agree.Goals as goal

pub returns : goal.returns
returns c = agreeing_lists
