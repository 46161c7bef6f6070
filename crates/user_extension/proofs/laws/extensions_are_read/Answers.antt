use Rattle.user_extension.proofs.Law.{extensions_are_read}
use Rattle.user_extension.proofs.laws.extensions_are_read.Goals as goal

pub returns : goal.returns
returns c = extensions_are_read
