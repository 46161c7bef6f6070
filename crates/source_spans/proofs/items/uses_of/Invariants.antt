use Rattle.std.proofs.Common.{◌≡◌, flat_map, map, take}
use Rattle.source_spans.specs.Parts.{part_of}
use Rattle.source_spans.specs.Subjects.{use_in, use_seen, used_name}
use Rattle.source_spans.proofs.items.uses_of.Given as goal

abbrev pub invariant-loop-item : goal.invariant-loop-item
invariant-loop-item l = map use_seen l.uses.items ≡ flat_map (λ item. use_in (used_name item)) (map (part_of l.text.items) (take l.item-index l.item-items))
