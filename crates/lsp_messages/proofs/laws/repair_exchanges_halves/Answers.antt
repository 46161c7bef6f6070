use Rattle.lsp_messages.proofs.Pieces.{exchanges}
use Rattle.lsp_messages.proofs.laws.repair_exchanges_halves.Goals as goal

pub returns : goal.returns
returns c = exchanges
