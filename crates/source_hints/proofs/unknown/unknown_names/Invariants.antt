use Rattle.std.proofs.Common.{◌≡◌, flat_map, map, take}
use Rattle.source_spans.specs.Parts.{part_of}
use Rattle.source_hints.specs.Unknown.{unknown_in}
use Rattle.source_hints.proofs.unknown.unknown_names.Given as goal

abbrev pub invariant-loop-item : goal.invariant-loop-item
invariant-loop-item l = l.hints.items ≡ flat_map unknown_in (map (part_of l.text.items) (take l.item-index l.item-items))
