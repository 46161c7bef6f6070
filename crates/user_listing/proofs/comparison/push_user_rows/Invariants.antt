use Rattle.std.proofs.Common.{◌≡◌, ◌++◌, map, drop}
use Rattle.user_listing.specs.Comparison.{user_rows}
use Rattle.user_listing.specs.Entries.{extended_seen}
use Rattle.user_listing.proofs.Compared.{rows_of_names}
use Rattle.user_listing.proofs.comparison.push_user_rows.Given as goal

abbrev pub invariant-loop-name : goal.invariant-loop-name
invariant-loop-name l =
    let one = extended_seen l.one in
    let other = extended_seen l.other in
    l.out.items ++ rows_of_names l.mode l.kind one other (map (λ name. name.now) (drop l.name-index l.name-items)) ≡ l.initial.out.items
    ++ user_rows l.mode l.kind one other
