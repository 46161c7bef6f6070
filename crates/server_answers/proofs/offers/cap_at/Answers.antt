use Rattle.std.proofs.Common.{◌∙◌, sym}
use Rattle.server_answers.proofs.Capabilities.{named_at}
use Rattle.server_answers.proofs.offers.cap_at.Goals as goal

pub unwrap-requires : goal.unwrap-requires
unwrap-requires c = named_at _ _ _ c.by_name.ensures c.requires

pub returns : goal.returns
returns c = sym c.by_name.ensures ∙ c.unwrap.ensures
