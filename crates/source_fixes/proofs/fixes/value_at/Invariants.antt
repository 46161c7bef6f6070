use Rattle.std.proofs.Common.{◌≡◌, drop, map}
use Rattle.ti_source.specs.Reading.{item_of}
use Rattle.source_fixes.specs.Fixes.{value_at}
use Rattle.source_fixes.proofs.fixes.value_at.Given as goal

abbrev pub invariant-loop-item : goal.invariant-loop-item
invariant-loop-item l = value_at l.ordinal (map item_of (drop l.item-index l.items)) ≡ value_at l.ordinal (map item_of l.items)
