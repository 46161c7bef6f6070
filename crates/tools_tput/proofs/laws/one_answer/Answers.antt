use Rattle.tools_tput.proofs.Answering.{one_answer}
use Rattle.tools_tput.proofs.laws.one_answer.Goals as goal

pub returns : goal.returns
returns c = one_answer
