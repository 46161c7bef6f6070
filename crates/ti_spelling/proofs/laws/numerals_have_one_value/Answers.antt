use Rattle.ti_spelling.proofs.NumberLemmas.{one_value}
use Rattle.ti_spelling.proofs.laws.numerals_have_one_value.Goals as goal

pub returns : goal.returns
returns c = one_value
