use Rattle.std.proofs.Common.{sym}
use Rattle.tools_sources.proofs.Ending.{last_byte-last}
use Rattle.source_edits.proofs.texts.last_byte.Goals as goal

pub returns-in-Some : goal.returns-in-Some
returns-in-Some c = sym (last_byte-last 0 c.args.text.now c.in-Some.byte.now c.in-Some.ensures.value)
