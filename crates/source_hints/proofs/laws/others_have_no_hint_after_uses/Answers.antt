use Rattle.source_hints.proofs.AfterUses.{others_have_none}
use Rattle.source_hints.proofs.laws.others_have_no_hint_after_uses.Goals as goal

pub returns : goal.returns
returns c = others_have_none
