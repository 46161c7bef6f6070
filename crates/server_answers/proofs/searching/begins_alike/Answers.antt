use Rattle.std.proofs.Common.{sym}
use Rattle.server_answers.proofs.Searched.{begins_short}
use Rattle.server_answers.proofs.searching.begins_alike.Goals as goal

pub returns-then-text-held : goal.returns-then-text-held
returns-then-text-held c = sym (begins_short c.args.held.now c.args.text.now c.if-text-held.true)
