use Rattle.base_meaning.proofs.LawProofs.{staying_expansions}
use Rattle.base_meaning.proofs.laws.expansions_stay.Goals as goal

pub returns : goal.returns
returns c = staying_expansions
