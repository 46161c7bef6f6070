use Rattle.ti_spelling.proofs.NumberLemmas.{numbers_have_one_reading}
use Rattle.ti_spelling.proofs.laws.numbers_have_one_reading.Goals as goal

pub returns : goal.returns
returns c = numbers_have_one_reading
