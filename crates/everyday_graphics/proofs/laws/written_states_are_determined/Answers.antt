use Rattle.everyday_graphics.proofs.Determined.{one_list}
use Rattle.everyday_graphics.proofs.laws.written_states_are_determined.Goals as goal

pub returns : goal.returns
returns c = one_list c.rows_are_determined.ensures
