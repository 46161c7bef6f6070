use Rattle.std.proofs.Common.{◌≡◌, replicate}
use Rattle.base_components.specs.declared.search.Progress.TheVariants.{Unseen}
use Rattle.base_components.proofs.search.Search.new.Given as goal

abbrev pub invariant-loop-node : goal.invariant-loop-node
invariant-loop-node l = (l.progress.items ≡ replicate l._node Unseen) × (l.cursors.items ≡ replicate l._node 0)
