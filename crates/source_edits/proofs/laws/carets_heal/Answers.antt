use Rattle.source_edits.proofs.CaretsHeal.{carets_heal}
use Rattle.source_edits.proofs.laws.carets_heal.Goals as goal

pub returns : goal.returns
returns c = carets_heal
