use Rattle.std.proofs.Common.{◌≡◌, ℕ, ◌++◌, List, Option, map, drop}
use Rattle.ti_layout.specs.Values.{Content}
use Rattle.user_extension.specs.Reading.{said}
use Rattle.user_listing.specs.Entries.{all_seen, extended_seen}
use Rattle.user_listing.specs.RelativeSource.{first_said, user_difference}
use Rattle.user_listing.specs.inside.Lines.{flow}
use Rattle.user_listing.proofs.Flowing.{said_items}
use Rattle.user_listing.proofs.listing.push_user_items.Given as goal

abbrev pub invariant-loop-name : goal.invariant-loop-name
invariant-loop-name l =
    let say : List ℕ → Option Content = λ name. user_difference l.kind (said (extended_seen l.entry).rows name) (first_said (all_seen l.others) name) in
    l.out.items ++ flow l.layout l.taken (said_items say (map (λ name. name.now) (drop l.name-index l.names)))
    ≡ l.initial.out.items ++ flow l.layout l.fn.line (said_items say (map (λ name. name.now) l.names))
