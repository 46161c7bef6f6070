use Rattle.source_strings.proofs.Whole.{pieces_are_whole}
use Rattle.source_strings.proofs.pieces.pieces_are_whole.Goals as goal

pub returns : goal.returns
returns c = pieces_are_whole
