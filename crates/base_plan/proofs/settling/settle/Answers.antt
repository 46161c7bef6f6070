use Rattle.std.proofs.Common.{◌≡◌, map, sym, ◌∙◌, subst, ap}
use Rattle.std.proofs.lemmas.List.{length-map}
use Rattle.std.proofs.lemmas.Option.{same_Some}
use Rattle.ti_source.specs.Reading.{item_of, reading_of}
use Rattle.base_slots.specs.Settled.{IsSettled, fault_at, state_seen}
use Rattle.base_slots.specs.Slots.{blocks_of}
use Rattle.base_plan.proofs.BlockFaults.{lasting_added}
use Rattle.base_plan.proofs.settling.settle.Goals as goal

pub returns-clause-settled : goal.returns-clause-settled
returns-clause-settled g c = λ block s.
    let bs = blocks_of c.args.known.now.slots.now in
    let b = reading_of c.slot_of-slot.result.now.block in
    let none = ap (map (fault_at g.at)) c.new-faults.ensures.items in
    let one = rw (c.deref.ensures.value, none) at c.in_ok-add_locals.ensures in
    let three = rw c.deref-2.ensures.value at c.in_ok-add_entry_fault.ensures in
    let same : b ≡ block = same_Some b block (sym c.slot_of-slot.ensures ∙ s) in
    subst (λ x. IsSettled bs g.at x (record { state = c.in_ok-state.state; faults = c.add_entry_fault.new.faults })) same
    (record {
      table = c.in_ok-state.ensures.table;
      state = c.in_ok-state.ensures.state;
      faults = lasting_added bs g.at b (state_seen c.in_ok-state.state) (map (fault_at g.at) c.add_locals.new.faults.items)
          (map (fault_at g.at) c.add_item_faults.new.faults.items) (map (fault_at g.at) c.add_entry_fault.new.faults.items)
          one c.in_ok-is_wrong.ensures.added three c.in_ok-state.ensures.state;
    })

pub find_state-requires : goal.find_state-requires
find_state-requires g c =
    let slot = c.slot_of-slot.result.now in
    let room = rw (length-map slot.block.items.items item_of) at (c.requires.1 (reading_of slot.block) c.slot_of-slot.ensures) in
    (c.requires.0, (c.slot_of-slot.ensures, (c.in_ok-is_wrong.ensures.found, room)))
