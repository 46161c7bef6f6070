use Rattle.everyday_tic.proofs.Winning.{own_names_are_written}
use Rattle.everyday_tic.proofs.laws.own_names_are_written.Goals as goal

pub returns : goal.returns
returns c = own_names_are_written c.own_names_win.ensures
