use Rattle.source_keeping.proofs.LinesKept.{edits_keep}
use Rattle.source_keeping.proofs.laws.edits_keep_lines.Goals as goal

pub returns : goal.returns
returns c = edits_keep
