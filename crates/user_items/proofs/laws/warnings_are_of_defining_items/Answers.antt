use Rattle.user_items.proofs.Warnings.{warnings}
use Rattle.user_items.proofs.laws.warnings_are_of_defining_items.Goals as goal

pub returns : goal.returns
returns c = warnings
