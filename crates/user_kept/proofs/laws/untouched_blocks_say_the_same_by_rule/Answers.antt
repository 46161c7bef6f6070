use Rattle.user_kept.proofs.Untouched.{untouched_by_rule}
use Rattle.user_kept.proofs.laws.untouched_blocks_say_the_same_by_rule.Goals as goal

pub returns : goal.returns
returns c = untouched_by_rule
