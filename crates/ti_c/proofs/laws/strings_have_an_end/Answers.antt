use Rattle.ti_c.proofs.StringEnds.{strings_have_an_end}
use Rattle.ti_c.proofs.laws.strings_have_an_end.Goals as goal

pub returns : goal.returns
returns c = strings_have_an_end
