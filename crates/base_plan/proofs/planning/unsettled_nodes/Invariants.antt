use Rattle.std.proofs.Common.{◌≡◌, length}
use Rattle.base_plan.proofs.planning.unsettled_nodes.Given as goal

abbrev pub invariant-loop-node : goal.invariant-loop-node
invariant-loop-node l = length l.all.items ≡ l._node
