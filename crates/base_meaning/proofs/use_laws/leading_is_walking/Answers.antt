use Rattle.base_meaning.proofs.UseLawProofs.{leading_walks}
use Rattle.base_meaning.proofs.use_laws.leading_is_walking.Goals as goal

pub returns : goal.returns
returns c = leading_walks
