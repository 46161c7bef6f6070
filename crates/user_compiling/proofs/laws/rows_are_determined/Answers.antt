use Rattle.user_compiling.proofs.RowLists.{rows_are_determined}
use Rattle.user_compiling.proofs.laws.rows_are_determined.Goals as goal

pub returns : goal.returns
returns c = rows_are_determined
