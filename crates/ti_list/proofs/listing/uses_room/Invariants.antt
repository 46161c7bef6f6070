use Rattle.std.proofs.Common.{◌≡◌, ◌+◌, map, drop}
use Rattle.ti_layout.specs.View.{entry_seen}
use Rattle.ti_list.specs.inside.Room.{uses_room}
use Rattle.ti_list.proofs.listing.uses_room.Given as goal

abbrev pub invariant-loop-other : goal.invariant-loop-other
invariant-loop-other l = l.room + uses_room (map (λ o. entry_seen o) (drop l.other-index l.others)) ≡ uses_room (map (λ o. entry_seen o) l.others)
