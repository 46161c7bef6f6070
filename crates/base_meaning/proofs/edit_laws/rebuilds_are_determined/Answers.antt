use Rattle.base_meaning.proofs.ExchangeLaws.{one_rebuilt_by}
use Rattle.base_meaning.proofs.edit_laws.rebuilds_are_determined.Goals as goal

pub returns : goal.returns
returns c = one_rebuilt_by
