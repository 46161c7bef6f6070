use Rattle.everyday_constants.proofs.Staying.{stay}
use Rattle.everyday_constants.proofs.laws.characters_stay.Goals as goal

pub returns : goal.returns
returns c = stay
