use Rattle.std.proofs.Common.{◌<◌, ℕ, length}
use Rattle.base_components.specs.Graph.{HasEdge}
use Rattle.base_components.proofs.graph.Graph.is_whole.Given as goal

abbrev pub invariant-loop-node : goal.invariant-loop-node
invariant-loop-node l = (from to : ℕ) → from < l.node → HasEdge l.self from to → to < length l.self
