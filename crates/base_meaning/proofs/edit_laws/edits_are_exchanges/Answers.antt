use Rattle.base_meaning.proofs.ExchangeLaws.{exchanged_by}
use Rattle.base_meaning.proofs.edit_laws.edits_are_exchanges.Goals as goal

pub returns : goal.returns
returns c = exchanged_by
