use Rattle.std.proofs.Common.{◌≡◌, map, take}
use Rattle.source_edits.specs.Nearest.{names_at}
use Rattle.source_edits.proofs.distances.names_at.Given as goal

abbrev pub invariant-loop-other : goal.invariant-loop-other
invariant-loop-other l = map (λ other. other.now) l.found.items ≡ names_at l.edits l.name (map (λ other. other.now) (take l.other-index l.others))
