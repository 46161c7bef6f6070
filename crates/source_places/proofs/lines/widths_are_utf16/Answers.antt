use Rattle.source_places.proofs.Columns.{widths}
use Rattle.source_places.proofs.lines.widths_are_utf16.Goals as goal

pub returns : goal.returns
returns c = widths
