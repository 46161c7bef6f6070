use Rattle.std.proofs.Common.{◌-◌, length, map, drop}
use Rattle.ti_source.specs.Reading.{item_of}
use Rattle.ti_layout.specs.Values.{contents}
use Rattle.base_meaning.specs.Expansion.{own_items}
use Rattle.base_meaning.specs.ValueTables.{IsTableOfItems}
use Rattle.base_slots.specs.Slots.{blocks_of}
use Rattle.base_plan.proofs.tables.own_mentions.Given as goal

abbrev pub ghost-say : goal.ghost-say
ghost-say g a = g.at

-- the block's own of the last items were added, the last first
abbrev pub invariant-loop-done : goal.invariant-loop-done
invariant-loop-done g l =
    IsTableOfItems (blocks_of l.known.slots.now) (own_items (map item_of (drop (length l.block.items.items - l.done) l.block.items.items))) (contents l.own)
