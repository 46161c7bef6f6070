use Rattle.ti_spelling.proofs.WritingLaws.{written_spells}
use Rattle.ti_spelling.proofs.laws.written_spells.Goals as goal

pub returns : goal.returns
returns c = written_spells
