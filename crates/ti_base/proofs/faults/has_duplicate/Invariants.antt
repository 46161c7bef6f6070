use Rattle.std.proofs.Common.{◌≡◌, map, drop}
use Rattle.std.specs.List.{list_any}
use Rattle.std.specs.Rc.{rc_slice_items}
use Rattle.base_meaning.specs.Faults.{is_owned_before}
use Rattle.base_slots.specs.Slots.{blocks_of}
use Rattle.ti_base.proofs.faults.has_duplicate.Given as goal

abbrev pub invariant-loop-name : goal.invariant-loop-name
invariant-loop-name l =
    list_any (is_owned_before (blocks_of l.slots) l.at) (map rc_slice_items (drop l.name-index l.names))
    ≡ list_any (is_owned_before (blocks_of l.slots) l.at) (map rc_slice_items l.names)
