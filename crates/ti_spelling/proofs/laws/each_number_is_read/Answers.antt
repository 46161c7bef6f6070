use Rattle.ti_spelling.proofs.NumberLemmas.{each_text_is_read}
use Rattle.ti_spelling.proofs.laws.each_number_is_read.Goals as goal

pub returns : goal.returns
returns c = each_text_is_read
