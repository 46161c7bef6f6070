use Rattle.std.proofs.Common.{◌≡◌, ◌++◌, map, take}
use Rattle.ti_source.specs.Items.{bytes}
use Rattle.source_spans.specs.Parts.{part_of}
use Rattle.source_fixes.proofs.parting.push_texts.Given as goal

abbrev pub invariant-loop-item : goal.invariant-loop-item
invariant-loop-item l =
    map (λ t. t.items) l.texts.items ≡ map (λ t. t.items) l.fn.texts.items ++ map bytes (map (part_of l.text) (take l.item-index l.items))
