use Rattle.std.proofs.Common.{◌-◌, length, map}
use Rattle.std.specs.Rc.{rc_slice_items}
use Rattle.base_slots.specs.Slots.{ids_of}
use Rattle.base_dependents.specs.inside.Search.{IsSearch}
use Rattle.base_dependents.proofs.search.search.Given as goal

abbrev pub invariant-loop-next : goal.invariant-loop-next
invariant-loop-next l = IsSearch l.slots l.fn.put (map rc_slice_items l.out) l.found.keys l.next

abbrev pub decreases-loop-next : goal.decreases-loop-next
decreases-loop-next l = length (ids_of l.slots) - l.next
