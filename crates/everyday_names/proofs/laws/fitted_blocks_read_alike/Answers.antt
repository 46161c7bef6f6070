use Rattle.everyday_names.proofs.Fitted.{fitted_blocks_read_alike}
use Rattle.everyday_names.proofs.laws.fitted_blocks_read_alike.Goals as goal

pub returns : goal.returns
returns c = fitted_blocks_read_alike
