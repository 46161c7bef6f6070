use Rattle.user_compiling.proofs.ReadBack.{one_state}
use Rattle.user_compiling.proofs.laws.states_of_blocks_are_determined.Goals as goal

pub returns : goal.returns
returns c = one_state
