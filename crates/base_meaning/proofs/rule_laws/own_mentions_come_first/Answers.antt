use Rattle.base_meaning.proofs.RuleLaws.{own_comes_first}
use Rattle.base_meaning.proofs.rule_laws.own_mentions_come_first.Goals as goal

pub returns : goal.returns
returns c = own_comes_first
