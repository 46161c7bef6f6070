use Rattle.base_components.proofs.Searching.{AreAbove}
use Rattle.base_components.proofs.search.cut_above.Given as goal

abbrev pub invariant-loop-count : goal.invariant-loop-count
invariant-loop-count l = AreAbove l.starts.items l.place l.count

abbrev pub decreases-loop-count : goal.decreases-loop-count
decreases-loop-count l = l.count
