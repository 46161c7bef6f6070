use Rattle.std.proofs.Common.{◌≡◌, ◌++◌, map, filter, drop}
use Rattle.std.specs.Rc.{rc_slice_items}
use Rattle.base_meaning.specs.Faults.{fault_seen, is_owned_before, name_fault, name_faults}
use Rattle.base_slots.specs.Slots.{blocks_of}
use Rattle.ti_base.proofs.faults.add_name_faults.Given as goal

-- what was added and what is to be added are the faults of all names
abbrev pub invariant-loop-name : goal.invariant-loop-name
invariant-loop-name l =
    map fault_seen l.faults.items ++ map (name_fault l.at) (filter (is_owned_before (blocks_of l.slots) l.at)
    (map (λ name. rc_slice_items name.now) (drop l.name-index l.name-items)))
    ≡ map fault_seen l.fn.faults.items ++ name_faults (blocks_of l.slots) l.at (map rc_slice_items l.names)
