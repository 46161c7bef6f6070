use Rattle.base_meaning.proofs.LawProofs.{found_uses, told_owners}
use Rattle.base_meaning.proofs.laws.uses_and_owners_are_told.Goals as goal

pub returns-clause-uses : goal.returns-clause-uses
returns-clause-uses c = found_uses

pub returns-clause-owners : goal.returns-clause-owners
returns-clause-owners c = told_owners
