use Rattle.tools_session.proofs.OneOutput.{one_answer-law}
use Rattle.tools_session.proofs.laws.one_answer.Goals as goal

pub returns : goal.returns
returns c = one_answer-law
