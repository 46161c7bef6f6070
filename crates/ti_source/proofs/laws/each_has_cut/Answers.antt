use Rattle.ti_source.proofs.CutLemmas.{each_has_cut}
use Rattle.ti_source.proofs.laws.each_has_cut.Goals as goal

pub returns : goal.returns
returns c = each_has_cut
