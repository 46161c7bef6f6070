use Rattle.lsp_messages.proofs.Pieces.{whole_stay}
use Rattle.lsp_messages.proofs.laws.whole_bodies_stay.Goals as goal

pub returns : goal.returns
returns c = whole_stay
