use Rattle.user_kept.proofs.KeptStates.{kept_states}
use Rattle.user_kept.proofs.laws.kept_states_stay_right.Goals as goal

pub returns : goal.returns
returns c = kept_states
