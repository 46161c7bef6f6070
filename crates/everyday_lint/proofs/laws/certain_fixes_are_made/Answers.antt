use Rattle.everyday_lint.proofs.Choices.{are_made}
use Rattle.everyday_lint.proofs.laws.certain_fixes_are_made.Goals as goal

pub returns : goal.returns
returns c = are_made
