use Rattle.ti_source.proofs.CutLemmas.{one_cut_law}
use Rattle.ti_source.proofs.laws.one_cut.Goals as goal

pub returns : goal.returns
returns c = one_cut_law
