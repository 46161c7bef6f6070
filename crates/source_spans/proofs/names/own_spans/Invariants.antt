use Rattle.std.proofs.Common.{◌≡◌, flat_map, map, take}
use Rattle.source_spans.specs.Parts.{part_of}
use Rattle.source_spans.specs.Subjects.{span_if}
use Rattle.source_spans.proofs.names.own_spans.Given as goal

abbrev pub invariant-loop-part : goal.invariant-loop-part
invariant-loop-part l = l.spans.items ≡ flat_map (span_if l.name) (map (part_of l.text.items) (take l.part-index l.part-items))
