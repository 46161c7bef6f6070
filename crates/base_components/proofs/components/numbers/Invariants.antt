use Rattle.std.proofs.Common.{take}
use Rattle.base_components.specs.inside.Search.{AreClosedNumbers}
use Rattle.base_components.proofs.components.numbers.Given as goal

abbrev pub invariant-loop-node : goal.invariant-loop-node
invariant-loop-node l = AreClosedNumbers (take l.node-index l.progress) l.numbers.items
