use Rattle.std.proofs.Common.{◌≡◌, ◌+◌, map, drop}
use Rattle.ti_layout.specs.View.{view_contents, entry_seen}
use Rattle.ti_list.specs.Listing.{in_order, items_for}
use Rattle.ti_list.specs.RelativeSource.{differing_contents}
use Rattle.ti_list.specs.inside.Room.{items_room}
use Rattle.ti_list.proofs.listing.kind_room.Given as goal

abbrev pub invariant-loop-place : goal.invariant-loop-place
invariant-loop-place l =
    let table = differing_contents (view_contents l.view) (map (λ o. entry_seen o) l.others) in
    let caps = in_order l.order l.kind in
    l.room + items_room (items_for table (drop l.place caps)) ≡ items_room (items_for table caps)
