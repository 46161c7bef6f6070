use Rattle.std.proofs.Common.{◌≡◌, drop, map}
use Rattle.std.specs.List.{position, position_from}
use Rattle.source_spans.specs.Parts.{part_of}
use Rattle.source_spans.specs.Subjects.{is_on}
use Rattle.source_spans.proofs.touching.ordinal_on.Given as goal

abbrev pub invariant-loop-at : goal.invariant-loop-at
invariant-loop-at l = position_from (is_on l.offset) l.at (map (part_of l.text) (drop l.at l.parts)) ≡ position (is_on l.offset) (map (part_of l.text) l.parts)
