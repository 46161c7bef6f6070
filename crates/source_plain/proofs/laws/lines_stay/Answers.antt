use Rattle.source_plain.proofs.Lines.{lines_stay}
use Rattle.source_plain.proofs.laws.lines_stay.Goals as goal

pub returns : goal.returns
returns c = lines_stay
