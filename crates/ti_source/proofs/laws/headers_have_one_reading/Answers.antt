use Rattle.ti_source.proofs.HeaderLemmas.{headers_have_one_reading}
use Rattle.ti_source.proofs.laws.headers_have_one_reading.Goals as goal

pub returns : goal.returns
returns c = headers_have_one_reading
