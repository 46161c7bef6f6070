use Rattle.std.proofs.Common.{◌≡◌, ◌++◌, filter, map, take}
use Rattle.source_spans.specs.Subjects.{UseSeen, use_seen}
use Rattle.source_names.specs.Names.{is_sought}
use Rattle.source_names.specs.inside.Seeking.{sought_seen}
use Rattle.source_names.proofs.names.push_uses.Given as goal

abbrev pub invariant-loop-found : goal.invariant-loop-found
invariant-loop-found l = l.parts.items
    ≡ l.fn.parts.items ++ map (λ (found : UseSeen). found.span)
    (filter (λ (found : UseSeen). is_sought l.database (sought_seen l.sought) found.name) (map use_seen (take l.found-index l.found-items)))
