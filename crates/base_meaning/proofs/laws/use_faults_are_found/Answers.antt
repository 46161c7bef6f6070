use Rattle.base_meaning.proofs.LawProofs.{told_faults}
use Rattle.base_meaning.proofs.laws.use_faults_are_found.Goals as goal

pub returns : goal.returns
returns c = told_faults
