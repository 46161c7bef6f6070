use Rattle.source_remarks.proofs.Remarked.{have_the_hints}
use Rattle.source_remarks.proofs.laws.remarks_have_the_hints.Goals as goal

pub returns : goal.returns
returns c = have_the_hints
