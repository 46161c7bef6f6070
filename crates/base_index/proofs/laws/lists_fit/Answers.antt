use Rattle.base_index.proofs.Naming.{fitting_lists}
use Rattle.base_index.proofs.laws.lists_fit.Goals as goal

pub returns : goal.returns
returns c = fitting_lists
