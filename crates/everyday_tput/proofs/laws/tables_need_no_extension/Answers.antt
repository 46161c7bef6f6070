use Rattle.everyday_tput.proofs.InOrder.{tables_need_no_extension}
use Rattle.everyday_tput.proofs.laws.tables_need_no_extension.Goals as goal

pub returns : goal.returns
returns c = tables_need_no_extension
