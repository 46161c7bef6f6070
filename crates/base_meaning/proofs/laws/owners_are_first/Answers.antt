use Rattle.base_meaning.proofs.LawProofs.{first_owners}
use Rattle.base_meaning.proofs.laws.owners_are_first.Goals as goal

pub returns : goal.returns
returns c = first_owners
