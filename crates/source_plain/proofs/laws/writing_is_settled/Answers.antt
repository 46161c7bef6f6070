use Rattle.source_plain.proofs.Written.{settled}
use Rattle.source_plain.proofs.laws.writing_is_settled.Goals as goal

pub returns : goal.returns
returns c = settled
