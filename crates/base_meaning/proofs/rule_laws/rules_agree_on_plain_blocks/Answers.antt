use Rattle.base_meaning.proofs.RuleLaws.{rules_agree}
use Rattle.base_meaning.proofs.rule_laws.rules_agree_on_plain_blocks.Goals as goal

pub returns : goal.returns
returns c = rules_agree
