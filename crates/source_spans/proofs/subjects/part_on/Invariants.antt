use Rattle.std.proofs.Common.{◌≡◌, drop, map}
use Rattle.source_spans.specs.Parts.{part_of}
use Rattle.source_spans.specs.Subjects as spec
use Rattle.source_spans.proofs.subjects.part_on.Given as goal

abbrev pub invariant-loop-part : goal.invariant-loop-part
invariant-loop-part l = spec.part_on l.offset (map (part_of l.text) (drop l.part-index l.parts)) ≡ spec.part_on l.offset (map (part_of l.text) l.parts)
