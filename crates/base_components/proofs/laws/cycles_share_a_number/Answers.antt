use Rattle.base_components.proofs.LawProofs.{shared_numbers}
use Rattle.base_components.proofs.laws.cycles_share_a_number.Goals as goal

pub returns : goal.returns
returns c = shared_numbers
