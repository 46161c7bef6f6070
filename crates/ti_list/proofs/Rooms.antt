-- The room that is left for the items of a kind, one capability after the other.
use Rattle.std.proofs.Common.{◌≡◌, ℕ, ◌+◌, ◌≤◌, List, length, drop, slice_get, Some, None, ap}
use Rattle.std.proofs.lemmas.List.{drop_all}
use Rattle.ti_caps.specs.Tables.{Capability}
use Rattle.ti_layout.specs.Values.{Content, Contents}
use Rattle.ti_list.specs.inside.Contents.{said_for}
use Rattle.ti_list.specs.Listing.{items_for}
use Rattle.ti_list.specs.inside.Room.{item_room, items_room}
use Rattle.ti_list.proofs.Steps.{items-some, items-none}

pub room-some : (table : Contents) (caps : List Capability) (place : ℕ) (c : Capability) (x : Content) → slice_get caps place ≡ Some c → table c ≡ Some x
    → items_room (items_for table (drop place caps)) ≡ item_room (said_for c x) + items_room (items_for table (drop (place + 1) caps))
room-some table caps place c x at some = ap items_room (items-some table caps place c x at some)

pub room-none : (table : Contents) (caps : List Capability) (place : ℕ) (c : Capability) → slice_get caps place ≡ Some c → table c ≡ None
    → items_room (items_for table (drop place caps)) ≡ items_room (items_for table (drop (place + 1) caps))
room-none table caps place c at none = ap items_room (items-none table caps place c at none)

pub room-end : (table : Contents) (caps : List Capability) (place : ℕ) → length caps ≤ place → items_room (items_for table (drop place caps)) ≡ 0
room-end table caps place past = ap (λ (cs : List Capability). items_room (items_for table cs)) (drop_all place caps past)
