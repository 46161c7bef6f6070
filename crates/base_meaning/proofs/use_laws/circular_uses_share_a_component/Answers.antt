use Rattle.base_meaning.proofs.UseLawProofs.{circular_components}
use Rattle.base_meaning.proofs.use_laws.circular_uses_share_a_component.Goals as goal

pub returns : goal.returns
returns c = circular_components
