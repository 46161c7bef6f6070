use Rattle.std.proofs.Common.{◌≡◌, ◌++◌, drop}
use Rattle.ti_layout.specs.View.{view_contents}
use Rattle.ti_list.specs.Comparison.{rows}
use Rattle.ti_list.specs.Listing.{in_order}
use Rattle.ti_list.proofs.comparison.push_kind.Given as goal

abbrev pub invariant-loop-place : goal.invariant-loop-place
invariant-loop-place l =
    let caps = in_order l.order l.kind in
    l.out.items ++ rows l.mode (view_contents l.one) (view_contents l.other) (drop l.place caps) ≡ l.initial.out.items
    ++ rows l.mode (view_contents l.one) (view_contents l.other) caps
