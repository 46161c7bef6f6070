use Rattle.everyday_lint.proofs.FixingProofs.{fixing_keeps}
use Rattle.everyday_lint.proofs.fixing.fixes_keep_lines.Goals as goal

pub returns : goal.returns
returns c = fixing_keeps
