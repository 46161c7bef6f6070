use Rattle.everyday_lint.proofs.Choices.{change_nothing_else}
use Rattle.everyday_lint.proofs.laws.fixes_change_nothing_else.Goals as goal

pub returns : goal.returns
returns c = change_nothing_else
