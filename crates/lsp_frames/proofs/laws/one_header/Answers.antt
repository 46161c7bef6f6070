use Rattle.lsp_frames.proofs.OneFrame.{one_header-law}
use Rattle.lsp_frames.proofs.laws.one_header.Goals as goal

pub returns : goal.returns
returns c = one_header-law
