use Rattle.std.proofs.Common.{◌≡◌, map, drop}
use Rattle.user_listing.specs.Entries.{extended_seen}
use Rattle.user_listing.specs.Names.{names_among, with_names_of}
use Rattle.user_listing.proofs.names.names_among.Given as goal

abbrev pub invariant-loop-other : goal.invariant-loop-other
invariant-loop-other l =
    with_names_of l.kind (map (λ name. name.now) l.names.items) (map (λ e. extended_seen e) (drop l.other-index l.others))
    ≡ names_among l.kind (extended_seen l.entry) (map (λ e. extended_seen e) l.others)
