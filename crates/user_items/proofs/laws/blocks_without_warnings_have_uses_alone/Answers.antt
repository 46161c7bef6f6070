use Rattle.user_items.proofs.UsesAlone.{uses_alone}
use Rattle.user_items.proofs.laws.blocks_without_warnings_have_uses_alone.Goals as goal

pub returns : goal.returns
returns c = uses_alone
