-- each step writes the row of one capability
use Rattle.std.proofs.Common.{◌≡◌, ◌≤◌, ◌++◌, length, arith}
use Rattle.ti_layout.specs.View.{view_contents}
use Rattle.ti_list.specs.Comparison.{kind_heading}
use Rattle.ti_list.specs.Listing.{in_order}
use Rattle.ti_list.proofs.Orders.{length-in_order}
use Rattle.ti_list.proofs.Rows.{rows-step, rows-end}
use Rattle.ti_list.proofs.comparison.push_kind.Goals as goal

pub loop-place-preserved : goal.loop-place-preserved
loop-place-preserved c =
    rows-step c.args.mode (view_contents c.args.one.now) (view_contents c.args.other.now) (in_order c.args.order c.args.kind) c.loop-place.place _ _ _
    c.loop-place.out.items _ _
    c.cap_at-cap.ensures c.get.ensures c.get-in-loop-place.ensures (c.in_ok-push_row.ensures) c.loop-place.invariant

pub returns : goal.returns
returns c =
    let caps = in_order c.args.order c.args.kind in
    let past : length caps ≤ c.loop-place.place = rw length-in_order (omega (arith, c.count-place-end.ensures.value, c.loop-place-test.false)) in
    let begun : c.extend_from_slice.new.self.items ≡ c.args.out.now.items ++ kind_heading c.args.kind =
    rw (← c.kind_heading.ensures) (c.in_ok-extend_from_slice.ensures.items) in
    rows-end c.args.mode (view_contents c.args.one.now) (view_contents c.args.other.now) caps c.loop-place.place _
    (kind_heading c.args.kind) c.args.out.now.items past (rw (← begun) c.loop-place.invariant)
