use Rattle.tools_session.proofs.OneOutput.{one_output-law}
use Rattle.tools_session.proofs.laws.one_output.Goals as goal

pub returns : goal.returns
returns c = one_output-law
