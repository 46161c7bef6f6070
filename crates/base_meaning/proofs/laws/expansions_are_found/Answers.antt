use Rattle.base_meaning.proofs.LawProofs.{found_expansions}
use Rattle.base_meaning.proofs.laws.expansions_are_found.Goals as goal

pub returns : goal.returns
returns c = found_expansions
