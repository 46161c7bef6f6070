use Rattle.std.proofs.Common.{take}
use Rattle.base_components.specs.inside.Search.{IsMarked}
use Rattle.base_components.proofs.search.mark_closed.Given as goal

abbrev pub invariant-loop-node : goal.invariant-loop-node
invariant-loop-node l = IsMarked l.fn.progress.items l.progress.items (take l.node-index l.nodes) l.number
