use Rattle.tools_tput.proofs.LongNames.{long_name-after, long_name-whole}
use Rattle.ti_c.proofs.entries.long_name.Goals as goal

pub returns-in-Some : goal.returns-in-Some
returns-in-Some c = long_name-after c.args.names.now c.in-Some.place c.in-Some.ensures.0 c.in-Some.ensures.1

pub returns-in-None : goal.returns-in-None
returns-in-None c = long_name-whole c.args.names.now c.in-None.ensures
