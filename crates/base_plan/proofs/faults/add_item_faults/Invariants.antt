use Rattle.std.proofs.Common.{ℕ, ◌≡◌, ◌≤◌, ◌<◌, ◌++◌, true, false, filter, length, map, drop, Some, slice_get}
use Rattle.ti_source.specs.Reading.{ReadItem, fault_of, item_of, reading_of}
use Rattle.base_meaning.specs.Faults.{is_kept, item_faults}
use Rattle.base_meaning.specs.Reaching.{used_name}
use Rattle.base_meaning.specs.UseLaws.{HasUseAtFault}
use Rattle.base_slots.specs.Settled.{fault_at}
use Rattle.base_slots.specs.Slots.{blocks_of}
use Rattle.base_plan.specs.inside.Settling.{is_at_fault}
use Rattle.base_plan.proofs.faults.add_item_faults.Given as goal

abbrev pub ghost-add_before : goal.ghost-add_before
ghost-add_before g a = g.at

abbrev pub ghost-add_item_fault : goal.ghost-add_item_fault
ghost-add_item_fault g a = g.at

abbrev pub ghost-add_locals : goal.ghost-add_locals
ghost-add_locals g a = g.at

-- what was added and what is to be added are the faults of all items; whether one of the uses so
-- far is at fault
abbrev pub invariant-loop-index : goal.invariant-loop-index
invariant-loop-index g l = record {
  added : map (fault_at g.at) l.faults.items ++ item_faults (blocks_of l.known.slots.now) g.at
      (filter (is_kept false) (map fault_of (drop l.next l.block.faults.items))) (map item_of (drop l.index l.block.items.items))
      ≡ map (fault_at g.at) l.fn.faults.items ++ item_faults (blocks_of l.known.slots.now) g.at (filter (is_kept false) (map fault_of l.block.faults.items))
      (map item_of l.block.items.items);
  within : l.next ≤ length l.block.faults.items;
  wrong : l.is_wrong ≡ true → HasUseAtFault (blocks_of l.known.slots.now) g.at (reading_of l.block);
  sound : l.is_wrong ≡ false → (k : ℕ) (item : ReadItem) → k < l.index → slice_get (map item_of l.block.items.items) k ≡ Some item
      → is_at_fault (blocks_of l.known.slots.now) g.at (used_name item.said) ≡ false;
}
