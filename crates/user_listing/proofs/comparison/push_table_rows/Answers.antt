-- each step writes the row of one capability
use Rattle.std.proofs.Common.{◌≤◌, ◌∙◌, length, arith}
use Rattle.ti_layout.specs.View.{view_contents}
use Rattle.ti_list.specs.Listing.{in_order}
use Rattle.ti_list.proofs.Orders.{length-in_order}
use Rattle.user_listing.proofs.Compared.{table-row, table-rows-end}
use Rattle.user_listing.proofs.comparison.push_table_rows.Goals as goal

pub loop-place-preserved : goal.loop-place-preserved
loop-place-preserved c =
    table-row c.args.mode (view_contents c.args.one.now.view) (view_contents c.args.other.now.view)
    (in_order c.args.order c.args.kind) c.loop-place.place c.cap_at-cap.result _ _ _ _ c.loop-place.out.items _ _
    c.cap_at-cap.ensures c.kind.ensures.value (c.as_bytes.ensures.value ∙ c.name.ensures) c.get.ensures c.get-in-loop-place.ensures c.in_ok-push_row.ensures
    c.loop-place.invariant

pub returns : goal.returns
returns c =
    let caps = in_order c.args.order c.args.kind in
    let past : length caps ≤ c.loop-place.place = rw length-in_order (omega (arith, c.count-place-end.ensures.value, c.loop-place-test.false)) in
    table-rows-end c.args.mode (view_contents c.args.one.now.view) (view_contents c.args.other.now.view) caps c.loop-place.place _ _ past c.loop-place.invariant
