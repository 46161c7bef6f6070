use Rattle.base_meaning.proofs.Ruling.{readings_leftmost}
use Rattle.base_meaning.proofs.rule_laws.readings_are_leftmost.Goals as goal

pub returns : goal.returns
returns c = readings_leftmost
