use Rattle.everyday_tic.proofs.Becoming.{both_ok}
use Rattle.everyday_tic.proofs.compiling.found_or_sought.Goals as goal

pub returns-in-None : goal.returns-in-None
returns-in-None c = both_ok c.faults.result _ _ c.faults.ensures.all c.faults.ensures.placed
