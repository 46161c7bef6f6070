use Rattle.std.proofs.Common.{map, take}
use Rattle.std.specs.List.{concat}
use Rattle.tools_devices.specs.Counted.{observation}
use Rattle.tools_devices.specs.Writing.{TakesAll}
use Rattle.ti_tools.proofs.stopping.write_parts.Given as goal

-- the parts before are written
abbrev pub invariant-loop-part : goal.invariant-loop-part
invariant-loop-part g l =
    TakesAll (observation g.W.Write.contents l.initial.writer) (observation g.W.Write.contents l.writer)
    (concat (map (λ part. part.now) (take l.part-index l.parts)))
