use Rattle.std.proofs.Common.{sym, ap}
use Rattle.std.specs.Option.{option_map_or}
use Rattle.ti_source.specs.Reading.{reading_of}
use Rattle.base_slots.specs.declared.slots.Slot.{Slot}
use Rattle.base_slots.specs.Slots.{empty_reading}
use Rattle.base_slots.proofs.Owners.{slot_by_id}
use Rattle.base_dependents.proofs.blocks.block_of.Goals as goal

pub returns-clause-block : goal.returns-clause-block
returns-clause-block c =
    ap (λ o. option_map_or (λ (slot : Slot). reading_of slot.block) o empty_reading)
    (sym (slot_by_id c.args.slots.now c.args.id c.slot.result.now c.requires c.slot.ensures.slot))
