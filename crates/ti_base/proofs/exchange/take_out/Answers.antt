use Rattle.std.proofs.Common.{refl}
use Rattle.ti_base.proofs.exchange.take_out.Goals as goal

pub returns-in-Some : goal.returns-in-Some
returns-in-Some c = rw c.in-Some.is (c.take_out.result, refl, c.take_out.ensures)

pub returns-in-None : goal.returns-in-None
returns-in-None c = rw c.in-None.is (refl, refl)
