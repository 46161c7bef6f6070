use Rattle.user_kept.proofs.Untouched.{untouched}
use Rattle.user_kept.proofs.laws.untouched_blocks_say_the_same.Goals as goal

pub returns : goal.returns
returns c = untouched
