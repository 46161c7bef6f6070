-- each step adds the room of one item, or there is none
use Rattle.std.proofs.Common.{◌≡◌, ◌≤◌, map, option_map, Some, None, length, refl, sym, ◌∙◌, arith}
use Rattle.ti_layout.specs.View.{view_contents, entry_seen}
use Rattle.ti_layout.specs.Values.{content_seen}
use Rattle.ti_list.specs.Listing.{in_order}
use Rattle.ti_list.specs.RelativeSource.{differing_contents}
use Rattle.ti_list.proofs.Orders.{length-in_order}
use Rattle.ti_list.proofs.Rooms.{room-some, room-none, room-end}
use Rattle.ti_list.proofs.listing.kind_room.Goals as goal
use Rattle.ti_list.proofs.listing.kind_room.Goals.{in-Some+in_ok-room, in_default}

pub loop-place-preserved : goal.loop-place-preserved
loop-place-preserved c = elim c.match-said_of.branch [
  | in-Some+in_ok-room w ↦
      let table = differing_contents (view_contents c.args.view.now) (map (λ o. entry_seen o) c.args.others.now) in
      let caps = in_order c.args.order c.args.kind in
      let some : option_map content_seen c.said_of.result ≡ Some (content_seen w.in-Some.content) = rw w.in-Some.is refl in
      let step = room-some table caps c.loop-place.place _ _ c.cap_at-next.ensures (sym c.said_of.ensures.is ∙ some) in
      let more = w.in_ok-room.ensures.1 in
      rw w.room-is (omega (arith, step, more, w.item_room.ensures, c.loop-place.invariant))
  | in_default w ↦
      let table = differing_contents (view_contents c.args.view.now) (map (λ o. entry_seen o) c.args.others.now) in
      let caps = in_order c.args.order c.args.kind in
      let none : option_map content_seen c.said_of.result ≡ None = rw w.in_default.is refl in
      let step = room-none table caps c.loop-place.place _ c.cap_at-next.ensures (sym c.said_of.ensures.is ∙ none) in
      rw w.room-is (omega (arith, step, c.loop-place.invariant))
]

pub returns : goal.returns
returns c =
    let table = differing_contents (view_contents c.args.view.now) (map (λ o. entry_seen o) c.args.others.now) in
    let caps = in_order c.args.order c.args.kind in
    let past : length caps ≤ c.loop-place.place = rw length-in_order (omega (arith, c.count-place-end.ensures.value, c.loop-place-test.false)) in
    let ended = room-end table caps c.loop-place.place past in
    omega (arith, ended, c.loop-place.invariant)
