use Rattle.user_compiling.proofs.ReadBack.{rows_are_user_defined}
use Rattle.user_compiling.proofs.laws.rows_are_user_defined.Goals as goal

pub returns : goal.returns
returns c = rows_are_user_defined c.each_user_reading_is_sound.ensures
