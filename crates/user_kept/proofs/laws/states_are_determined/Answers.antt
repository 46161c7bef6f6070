use Rattle.user_kept.proofs.KeptStates.{determined_states}
use Rattle.user_kept.proofs.laws.states_are_determined.Goals as goal

pub returns : goal.returns
returns c = determined_states
