use Rattle.source_edits.proofs.Verdicts.{one_verdict_on}
use Rattle.source_edits.proofs.laws.items_have_one_verdict.Goals as goal

pub returns : goal.returns
returns c = one_verdict_on
