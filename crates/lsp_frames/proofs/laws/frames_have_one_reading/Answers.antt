use Rattle.lsp_frames.proofs.OneFrame.{one_reading-law}
use Rattle.lsp_frames.proofs.laws.frames_have_one_reading.Goals as goal

pub returns : goal.returns
returns c = one_reading-law
