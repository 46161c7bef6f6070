use Rattle.std.proofs.Common.{take, map}
use Rattle.ti_source.specs.Reading.{item_of}
use Rattle.base_dependents.specs.inside.Uses.{AddsRow}
use Rattle.base_dependents.proofs.uses.add_row.Given as goal

abbrev pub invariant-loop-item : goal.invariant-loop-item
invariant-loop-item l = AddsRow l.slots l.found.keys (map item_of (take l.item-index l.items)) l.fn.uses l.uses
