use Rattle.std.proofs.Common.{◌≡◌, ℕ, ◌++◌, List, None}
use Rattle.ti_layout.specs.View.{view_contents}
use Rattle.ti_list.specs.Listing.{in_order}
use Rattle.ti_list.specs.RelativeSource.{differing_contents}
use Rattle.user_listing.specs.Entries.{all_seen, entries_in}
use Rattle.user_listing.specs.inside.Lines.{flow}
use Rattle.user_listing.proofs.Flowing.{table_from}
use Rattle.user_listing.proofs.listing.push_table_items.Given as goal

abbrev pub invariant-loop-place : goal.invariant-loop-place
invariant-loop-place l =
    let table = differing_contents (view_contents l.entry.view) (entries_in (all_seen l.others)) in
    let caps = in_order l.layout.order l.kind in
    (later : List (List ℕ)) → l.out.items ++ flow l.layout l.line (table_from table caps l.place ++ later) ≡ l.initial.out.items
    ++ flow l.layout None (table_from table caps 0 ++ later)
