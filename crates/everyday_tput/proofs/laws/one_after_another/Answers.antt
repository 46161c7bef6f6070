use Rattle.everyday_tput.proofs.InOrder.{one_after_another}
use Rattle.everyday_tput.proofs.laws.one_after_another.Goals as goal

pub returns : goal.returns
returns c = λ t until. one_after_another t until
