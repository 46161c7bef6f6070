use Rattle.source_features.proofs.Touching.{edits_lay_part}
use Rattle.source_features.proofs.range_formatting.edits_lay_out_a_part.Goals as goal

pub returns : goal.returns
returns c = edits_lay_part
