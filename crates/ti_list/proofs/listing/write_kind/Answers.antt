-- each step writes the item of one capability, or there is none
use Rattle.std.proofs.Common.{◌≡◌, ◌≤◌, ◌++◌, [], map, option_map, Some, None, length, refl, sym, ◌∙◌, ap, arith}
use Rattle.std.proofs.lemmas.List.{append-nil, drop_all}
use Rattle.ti_layout.specs.View.{view_contents, entry_seen}
use Rattle.ti_layout.specs.Values.{content_seen}
use Rattle.ti_list.specs.inside.Listing.{flow}
use Rattle.ti_list.specs.Listing.{in_order, items_for}
use Rattle.ti_list.specs.RelativeSource.{differing_contents}
use Rattle.ti_list.proofs.Orders.{length-in_order}
use Rattle.ti_list.proofs.Rooms.{room-some, room-none}
use Rattle.ti_list.proofs.Threads.{lines-then}
use Rattle.ti_list.proofs.Steps.{flow-some, flow-none, flow-end}
use Rattle.ti_list.proofs.listing.write_kind.Goals as goal
use Rattle.ti_list.proofs.listing.write_kind.Goals.{in-Some, in_default}

pub write_placed-requires-clause-room : goal.write_placed-requires-clause-room
write_placed-requires-clause-room c =
    let table = differing_contents (view_contents c.args.view.now) (map (λ o. entry_seen o) c.args.others.now) in
    let caps = in_order c.args.layout.now.order c.args.kind in
    let some : option_map content_seen c.said_of.result ≡ Some (content_seen c.in-Some.content) = rw c.in-Some.is refl in
    let step = room-some table caps c.loop-place.place _ _ c.cap_at-cap.ensures (sym c.said_of.ensures.is ∙ some) in
    omega (arith, step, c.requires, c.loop-place.invariant.len, c.loop-place.invariant.capacity)

pub loop-place-preserved : goal.loop-place-preserved
loop-place-preserved c = elim c.match-said_of.branch [
  | in-Some w ↦
      let table = differing_contents (view_contents c.args.view.now) (map (λ o. entry_seen o) c.args.others.now) in
      let caps = in_order c.args.layout.now.order c.args.kind in
      let some : option_map content_seen c.said_of.result ≡ Some (content_seen w.in-Some.content) = rw w.in-Some.is refl in
      let step = room-some table caps c.loop-place.place _ _ c.cap_at-cap.ensures (sym c.said_of.ensures.is ∙ some) in
      record {
        done = λ rest. rw (w.out-is, w.line-is)
            (flow-some c.args.layout.now c.loop-place.line _ c.loop-place.out.items _ _ _ _ c.loop-place.place _ _ rest c.cap_at-cap.ensures
            (sym c.said_of.ensures.is ∙ some) w.write_placed.ensures.items
            (c.loop-place.invariant.done rest));
        len = rw w.out-is (omega (arith, step, w.write_placed.ensures.len, c.loop-place.invariant.len));
        capacity = rw w.out-is (omega (arith, w.write_placed.ensures.capacity, c.loop-place.invariant.capacity));
      }
  | in_default w ↦
      let table = differing_contents (view_contents c.args.view.now) (map (λ o. entry_seen o) c.args.others.now) in
      let caps = in_order c.args.layout.now.order c.args.kind in
      let none : option_map content_seen c.said_of.result ≡ None = rw w.in_default.is refl in
      let step = room-none table caps c.loop-place.place _ c.cap_at-cap.ensures (sym c.said_of.ensures.is ∙ none) in
      record {
        done = λ rest. rw (w.out-is, w.line-is)
            (flow-none c.args.layout.now c.loop-place.line c.loop-place.out.items _ _ _ c.loop-place.place _ rest c.cap_at-cap.ensures
            (sym c.said_of.ensures.is ∙ none) (c.loop-place.invariant.done rest));
        len = rw w.out-is (omega (arith, step, c.loop-place.invariant.len));
        capacity = rw w.out-is c.loop-place.invariant.capacity;
      }
]

pub returns-clause-items : goal.returns-clause-items
returns-clause-items c =
    let table = differing_contents (view_contents c.args.view.now) (map (λ o. entry_seen o) c.args.others.now) in
    let caps = in_order c.args.layout.now.order c.args.kind in
    let past : length caps ≤ c.loop-place.place = rw length-in_order (omega (arith, c.count-place-end.ensures.value, c.loop-place-test.false)) in
    let ended = ap (λ cs. flow c.args.layout.now c.loop-place.line (items_for table cs) []) (drop_all c.loop-place.place caps past)
    ∙ flow-end c.args.layout.now c.loop-place.line [] in
    sym (append-nil c.loop-place.out.items) ∙ ap (λ end. c.loop-place.out.items ++ end) (sym ended) ∙ c.loop-place.invariant.done []
    ∙ ap (λ lines. c.args.out.now.items ++ lines) (lines-then c.args.layout.now (items_for table caps) [] ∙ append-nil _)
