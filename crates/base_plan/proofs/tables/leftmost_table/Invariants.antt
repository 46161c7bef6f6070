use Rattle.std.proofs.Common.{map, take}
use Rattle.ti_source.specs.Reading.{item_of}
use Rattle.ti_layout.specs.Values.{contents}
use Rattle.base_meaning.specs.ValueTables.{IsTableOfItems}
use Rattle.base_slots.specs.Slots.{blocks_of}
use Rattle.base_plan.proofs.tables.leftmost_table.Given as goal

abbrev pub ghost-say : goal.ghost-say
ghost-say g a = g.at

abbrev pub invariant-loop-index : goal.invariant-loop-index
invariant-loop-index g l = IsTableOfItems (blocks_of l.known.slots.now) (map item_of (take l.index l.block.items.items)) (contents l.mentions)
