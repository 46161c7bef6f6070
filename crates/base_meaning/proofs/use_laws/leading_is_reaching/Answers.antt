use Rattle.base_meaning.proofs.UseLawProofs.{leading_reaches}
use Rattle.base_meaning.proofs.use_laws.leading_is_reaching.Goals as goal

pub returns : goal.returns
returns c = leading_reaches
