use Rattle.std.proofs.Common.{◌≡◌, All, map, take}
use Rattle.ti_source.specs.Items.{without_front}
use Rattle.source_spans.specs.Parts.{IsWithin, part_of}
use Rattle.source_spans.proofs.items.visible_items.Given as goal

abbrev pub invariant-loop-part : goal.invariant-loop-part
invariant-loop-part l = record {
  so : map (part_of l.text) l.items.items ≡ map without_front (map (part_of l.text) (take l.part-index l.part-items));
  within : All (IsWithin l.text) l.items.items;
}
