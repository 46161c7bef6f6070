use Rattle.ti_text.proofs.LineLaws.{lines_add}
use Rattle.ti_text.proofs.laws.lines_add.Goals as goal

pub returns : goal.returns
returns c = lines_add
