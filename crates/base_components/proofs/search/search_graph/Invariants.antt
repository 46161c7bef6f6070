use Rattle.base_components.proofs.Searching.{HasMet}
use Rattle.base_components.proofs.search.search_graph.Given as goal

abbrev pub invariant-loop-root : goal.invariant-loop-root
invariant-loop-root l = HasMet l.graph l.search l.root
