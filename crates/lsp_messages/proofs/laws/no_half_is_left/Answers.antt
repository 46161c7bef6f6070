use Rattle.lsp_messages.proofs.Pieces.{none_is_left}
use Rattle.lsp_messages.proofs.laws.no_half_is_left.Goals as goal

pub returns : goal.returns
returns c = none_is_left
