use Rattle.ti_source.proofs.HeaderLemmas.{each_header_is_read}
use Rattle.ti_source.proofs.laws.each_header_is_read.Goals as goal

pub returns : goal.returns
returns c = each_header_is_read
