use Rattle.tools_devices.specs.Counted.{observation}
use Rattle.tools_devices.proofs.Written.{takes_some}
use Rattle.tools_devices.proofs.writing.write_out.Goals as goal

pub loop-rest-preserved : goal.loop-rest-preserved
loop-rest-preserved g c =
    takes_some _ (observation g.W.Write.contents c.loop-rest.writer) (observation g.W.Write.contents c.write.new.self) _ _ _ c.in-Ok.count
    c.loop-rest.invariant.1 c.loop-rest.invariant.2 c.in-Ok.ensures.bytes c.in-Ok.ensures.failures c.if-count-eq0.false
