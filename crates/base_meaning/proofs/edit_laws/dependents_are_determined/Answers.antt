use Rattle.base_meaning.proofs.ExchangeLaws.{one_answer}
use Rattle.base_meaning.proofs.edit_laws.dependents_are_determined.Goals as goal

pub returns : goal.returns
returns c = one_answer
