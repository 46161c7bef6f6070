use Rattle.tools_tput.proofs.Answering.{bad_commands}
use Rattle.tools_tput.proofs.laws.bad_commands_change_nothing.Goals as goal

pub returns : goal.returns
returns c = bad_commands
