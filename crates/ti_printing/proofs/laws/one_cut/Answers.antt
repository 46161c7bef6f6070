use Rattle.ti_printing.proofs.Cuts.{one_cut}
use Rattle.ti_printing.proofs.laws.one_cut.Goals as goal

pub returns : goal.returns
returns c = one_cut
