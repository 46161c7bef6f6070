use Rattle.source_edits.proofs.SignsFit.{signs_fit}
use Rattle.source_edits.proofs.laws.signs_fit_the_kind.Goals as goal

pub returns : goal.returns
returns c = signs_fit
