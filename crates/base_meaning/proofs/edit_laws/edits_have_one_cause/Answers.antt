use Rattle.base_meaning.proofs.Causes.{one_cause}
use Rattle.base_meaning.proofs.edit_laws.edits_have_one_cause.Goals as goal

pub returns : goal.returns
returns c = one_cause
