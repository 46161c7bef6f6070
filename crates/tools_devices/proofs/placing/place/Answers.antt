use Rattle.std.proofs.Common.{arith, ◌∙◌}
use Rattle.tools_devices.proofs.Placed.{Writes-next, Writes-stop}
use Rattle.tools_devices.proofs.placing.place.Goals as goal

pub returns-in-Err-clause-some : goal.returns-in-Err-clause-some
returns-in-Err-clause-some g c =
    Writes-stop _ _ c.index-files-count.result _ _ _ (omega arith) c.index-files-count.is
    c.loop-count.invariant.0 c.in-Err.ensures.others

pub loop-count-preserved : goal.loop-count-preserved
loop-count-preserved g c = (
  Writes-next _ _ c.index-files-count.result _ _ _ (omega arith) c.index-files-count.is
      c.loop-count.invariant.0 c.in_default.ensures.written,
  c.in_default.ensures.steady ∙ c.loop-count.invariant.1,
)
