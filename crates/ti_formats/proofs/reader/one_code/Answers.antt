use Rattle.ti_formats.proofs.Reading.{one_code}
use Rattle.ti_formats.proofs.reader.one_code.Goals as goal

pub returns : goal.returns
returns c = one_code
