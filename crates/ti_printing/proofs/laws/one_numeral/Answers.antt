use Rattle.ti_printing.proofs.Numerals.{one_numeral}
use Rattle.ti_printing.proofs.laws.one_numeral.Goals as goal

pub returns : goal.returns
returns c = one_numeral
