use Rattle.std.proofs.Common.{◌≡◌, ◌<◌, ℕ, Some, slice_get}
use Rattle.base_components.proofs.graph.is_row_below.Given as goal

abbrev pub invariant-loop-edge : goal.invariant-loop-edge
invariant-loop-edge l = (k to : ℕ) → k < l.edge-index → slice_get l.row k ≡ Some (Some to) → to < l.nodes
