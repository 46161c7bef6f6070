use Rattle.std.proofs.Common.{◌≡◌, ◌++◌, [], drop, map}
use Rattle.base_meaning.specs.Owner.{readings}
use Rattle.source_spans.specs.Parts.{part_of}
use Rattle.source_hints.specs.Uses.{hints_from}
use Rattle.source_hints.proofs.uses.hints_from.Given as goal

-- with the hints of the items that are left, these are all
abbrev pub invariant-loop-at : goal.invariant-loop-at
invariant-loop-at l =
    l.hints.items ++ hints_from (readings l.database) l.said.items l.uses.items (map (part_of l.text) (drop l.at l.items))
    ≡ hints_from (readings l.database) [] [] (map (part_of l.text) l.items)
