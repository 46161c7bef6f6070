use Rattle.base_index.proofs.LawProofs.{first_lists}
use Rattle.base_index.proofs.laws.firsts_are_first.Goals as goal

pub returns : goal.returns
returns c = first_lists
