use Rattle.ti_formats.proofs.OneTree.{one_reading}
use Rattle.ti_formats.proofs.acceptor.one_reading.Goals as goal

pub returns : goal.returns
returns c = one_reading
