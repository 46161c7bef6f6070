use Rattle.std.proofs.Common.{◌≡◌, ℕ, ◌+◌, ◌≤◌, ◌++◌, List, map, drop, vec_len, vec_capacity}
use Rattle.ti_layout.specs.View.{view_contents, entry_seen}
use Rattle.ti_list.specs.inside.Listing.{flow, lines_before}
use Rattle.ti_list.specs.Listing.{in_order, items_for}
use Rattle.ti_list.specs.RelativeSource.{differing_contents}
use Rattle.ti_list.specs.inside.Room.{items_room}
use Rattle.ti_list.proofs.listing.write_kind.Given as goal

abbrev pub invariant-loop-place : goal.invariant-loop-place
invariant-loop-place l =
    let table = differing_contents (view_contents l.view) (map (λ o. entry_seen o) l.others) in
    let caps = in_order l.layout.order l.kind in
    record {
      done : (rest : List ℕ) → l.out.items ++ flow l.layout l.line (items_for table (drop l.place caps)) rest ≡ l.initial.out.items
          ++ lines_before l.layout (items_for table caps) rest;
      len : vec_len l.out + items_room (items_for table (drop l.place caps)) ≤ vec_len l.initial.out + items_room (items_for table caps);
      capacity : vec_capacity l.initial.out ≤ vec_capacity l.out;
    }
