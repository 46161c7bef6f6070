use Rattle.lsp_messages.proofs.Pieces.{are_in_pieces}
use Rattle.lsp_messages.proofs.laws.bodies_are_in_pieces.Goals as goal

pub returns : goal.returns
returns c = are_in_pieces
