use Rattle.base_meaning.proofs.ExchangeLaws.{users_depend}
use Rattle.base_meaning.proofs.edit_laws.users_of_dependents_depend.Goals as goal

pub returns : goal.returns
returns c = users_depend
