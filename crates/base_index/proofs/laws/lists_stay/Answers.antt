use Rattle.base_index.proofs.LawProofs.{staying_lists}
use Rattle.base_index.proofs.laws.lists_stay.Goals as goal

pub returns : goal.returns
returns c = staying_lists
