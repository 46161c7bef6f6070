use Rattle.std.proofs.Common.{◌==◌, ap, sym}
use Rattle.tools_sources.proofs.Ending.{last_byte-last}
use Rattle.tools_sources.proofs.checking.is_ended.Goals as goal

pub returns-in-Some : goal.returns-in-Some
returns-in-Some c = ap (λ byte. byte == 10) (sym (last_byte-last 10 c.args.text.now c.in-Some.byte.now c.in-Some.ensures.value))
