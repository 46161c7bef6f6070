use Rattle.source_edits.proofs.NamesFit.{names_fit}
use Rattle.source_edits.proofs.laws.names_are_of_capabilities.Goals as goal

pub returns : goal.returns
returns c = names_fit
