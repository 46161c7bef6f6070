use Rattle.std.proofs.Common.{◌≡◌, drop, map}
use Rattle.source_spans.specs.Faulty.{first_and_rest, is_name}
use Rattle.source_spans.specs.Parts.{part_of}
use Rattle.source_spans.proofs.faulty.next_name.Given as goal

-- the next of the rest is the next of all
abbrev pub invariant-loop-at : goal.invariant-loop-at
invariant-loop-at l =
    first_and_rest (is_name l.name) (map (part_of l.text) (drop l.at l.names)) ≡ first_and_rest (is_name l.name) (map (part_of l.text) (drop l.from l.names))
