use Rattle.source_fixes.proofs.Together.{certain_made, these_are_certain}
use Rattle.source_fixes.proofs.laws.certain_edits_are_made.Goals as goal

pub returns : goal.returns
returns c = record { certain = these_are_certain; made = certain_made }
