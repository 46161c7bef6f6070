use Rattle.std.proofs.Common.{◌≡◌, ◌++◌, ◌∷◌, map, drop}
use Rattle.std.specs.List.{flat_map}
use Rattle.ti_layout.specs.View.{Entry, entry_seen}
use Rattle.ti_list.specs.Listing.{listing}
use Rattle.everyday_infocmp.proofs.plain_listings.listings.Given as goal

-- what was written, and the listings that are left
abbrev pub invariant-loop-entry : goal.invariant-loop-entry
invariant-loop-entry l =
    l.text.items ++ flat_map (λ (entry : Entry). listing entry.names entry.contents l.layout) (map (λ e. entry_seen e) (drop l.entry-index l.others))
    ≡ flat_map (λ (entry : Entry). listing entry.names entry.contents l.layout) (map (λ e. entry_seen e) (l.first ∷ l.others))
