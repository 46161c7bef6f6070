-- What the slot of a block says of its faults.
use Rattle.std.proofs.Common.{◌≡◌, ℕ, map, Some, slice_get}
use Rattle.ti_source.specs.Reading.{reading_of}
use Rattle.base_meaning.specs.KeptBlocks.{lasting_faults}
use Rattle.base_slots.specs.declared.slots.Slot.{Slot}
use Rattle.base_slots.specs.declared.slots.Slots.{Slots}
use Rattle.base_slots.specs.Slots.{blocks_of, slots_of}
use Rattle.base_slots.specs.Settled.{fault_at}
use Rattle.ti_base.specs.inside.Database.{AreKept}

pub kept_of_slot : (slots : Slots) (at : ℕ) (slot : Slot) → AreKept slots → slice_get (slots_of slots) at ≡ Some slot
    → map (fault_at at) slot.settled.faults.items ≡ lasting_faults (blocks_of slots) at (reading_of slot.block)
kept_of_slot slots at slot h e = (h.settled at slot e).faults
