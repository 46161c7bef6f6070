use Rattle.base_components.proofs.LawProofs.{joined_walks}
use Rattle.base_components.proofs.laws.walks_join.Goals as goal

pub returns : goal.returns
returns c = joined_walks
