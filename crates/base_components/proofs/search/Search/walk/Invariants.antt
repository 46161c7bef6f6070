use Rattle.base_components.specs.inside.Search.{steps_left}
use Rattle.base_components.proofs.Searching.{IsWalking}
use Rattle.base_components.proofs.search.Search.walk.Given as goal

abbrev pub invariant-loop-self : goal.invariant-loop-self
invariant-loop-self l = IsWalking l.graph l.fn.self l.self l.root

abbrev pub decreases-loop-self : goal.decreases-loop-self
decreases-loop-self l = steps_left l.graph l.self
