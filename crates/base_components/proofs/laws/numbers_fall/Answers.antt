use Rattle.base_components.proofs.LawProofs.{falling_numbers}
use Rattle.base_components.proofs.laws.numbers_fall.Goals as goal

pub returns : goal.returns
returns c = falling_numbers
