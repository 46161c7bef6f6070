use Rattle.source_features.proofs.OnceNamed.{names_once}
use Rattle.source_features.proofs.completions.names_are_offered_once.Goals as goal

pub returns : goal.returns
returns c = names_once c.names_are_distinct.ensures
