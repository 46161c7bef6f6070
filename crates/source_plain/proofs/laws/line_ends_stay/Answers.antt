use Rattle.source_plain.proofs.Written.{ends_stay}
use Rattle.source_plain.proofs.laws.line_ends_stay.Goals as goal

pub returns : goal.returns
returns c = ends_stay
