use Rattle.base_meaning.proofs.Ruling.{readings_are_by}
use Rattle.base_meaning.proofs.rule_laws.readings_are_by_rule.Goals as goal

pub returns : goal.returns
returns c = readings_are_by
