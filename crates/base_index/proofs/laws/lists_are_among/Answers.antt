use Rattle.base_index.proofs.LawProofs.{among_all}
use Rattle.base_index.proofs.laws.lists_are_among.Goals as goal

pub returns : goal.returns
returns c = among_all
