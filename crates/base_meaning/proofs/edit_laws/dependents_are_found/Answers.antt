use Rattle.base_meaning.proofs.ExchangeLaws.{found_dependents}
use Rattle.base_meaning.proofs.edit_laws.dependents_are_found.Goals as goal

pub returns : goal.returns
returns c = found_dependents
