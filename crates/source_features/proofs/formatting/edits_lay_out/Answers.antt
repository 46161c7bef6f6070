use Rattle.source_features.proofs.LaidOut.{edits_lay}
use Rattle.source_features.proofs.formatting.edits_lay_out.Goals as goal

pub returns : goal.returns
returns c = edits_lay c.positions_are_inverse.ensures
