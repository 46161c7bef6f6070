use Rattle.std.proofs.Common.{◌∙◌}
use Rattle.source_edits.proofs.Ending.{caret_found}
use Rattle.source_edits.proofs.carets.caret_at_end.Goals as goal

pub returns-in-Some : goal.returns-in-Some
returns-in-Some c = c.caret_at.ensures ∙ caret_found c.args.value.now c.in-Some.byte.now c.in-Some.ensures.value
