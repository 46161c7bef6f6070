use Rattle.source_features.proofs.Completing.{in_line_of_cursor}
use Rattle.source_features.proofs.completions.completions_stay_in_the_line.Goals as goal

pub returns : goal.returns
returns c = in_line_of_cursor
