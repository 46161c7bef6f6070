use Rattle.user_kept.proofs.KeptStates.{kept_tables}
use Rattle.user_kept.proofs.laws.kept_tables_stay_right.Goals as goal

pub returns : goal.returns
returns c = kept_tables
