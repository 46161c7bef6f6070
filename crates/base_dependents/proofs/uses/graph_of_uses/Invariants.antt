use Rattle.std.proofs.Common.{take}
use Rattle.base_dependents.specs.inside.Uses.{AreRowsOf}
use Rattle.base_dependents.proofs.uses.graph_of_uses.Given as goal

abbrev pub invariant-loop-id : goal.invariant-loop-id
invariant-loop-id l = AreRowsOf l.slots l.found.keys (take l.id-index l.id-items) l.uses
