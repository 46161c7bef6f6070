use Rattle.everyday_constants.proofs.Written.{one_with}
use Rattle.everyday_constants.proofs.laws.one_with_characters.Goals as goal

pub returns : goal.returns
returns c = one_with c.one_reading.ensures
