use Rattle.source_edits.proofs.Ending.{last_placed}
use Rattle.source_edits.proofs.pieces.last_of.Goals as goal

pub returns-in-Some : goal.returns-in-Some
returns-in-Some c = last_placed 0 c.args.text.now c.in-Some.byte.now c.in-Some.ensures.value
