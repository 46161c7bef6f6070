use Rattle.base_components.proofs.LawProofs.{determined_components}
use Rattle.base_components.proofs.laws.components_are_determined.Goals as goal

pub returns : goal.returns
returns c = determined_components
