use Rattle.base_meaning.proofs.DistinctNames.{distinct_names}
use Rattle.base_meaning.proofs.item_laws.names_are_distinct.Goals as goal

pub returns : goal.returns
returns c = distinct_names
