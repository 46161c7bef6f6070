use Rattle.everyday_sources.proofs.Taking.{own_names_win}
use Rattle.everyday_sources.proofs.laws.own_names_win.Goals as goal

pub returns : goal.returns
returns c = own_names_win
