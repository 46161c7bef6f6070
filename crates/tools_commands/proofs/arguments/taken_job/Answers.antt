-- the message is the line of the mistake
use Rattle.std.proofs.Common.{inr, refl, rules}
use Rattle.tools_commands.proofs.arguments.taken_job.Goals as goal

pub returns-in_ok-line-in-Err-Wrong : goal.returns-in_ok-line-in-Err-Wrong
returns-in_ok-line-in-Err-Wrong c =
    inr (c.in-Err-Wrong.mistake, search rules, c.in_ok-line-in-Err-Wrong.line, refl, search rules)
