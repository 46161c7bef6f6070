use Rattle.std.proofs.Common.{◌≡◌, ◌++◌, ◌∷◌, map, drop}
use Rattle.std.specs.List.{flat_map}
use Rattle.user_listing.specs.Entries.{Extended, extended_seen}
use Rattle.user_listing.specs.Listing.{extended_listing}
use Rattle.everyday_infocmp.proofs.listings.listings.Given as goal

-- what was written, and the listings that are left
abbrev pub invariant-loop-entry : goal.invariant-loop-entry
invariant-loop-entry l = l.text.items ++ flat_map (λ (e : Extended). extended_listing e l.layout) (map (λ e. extended_seen e) (drop l.entry-index l.others))
    ≡ flat_map (λ (e : Extended). extended_listing e l.layout) (map (λ e. extended_seen e) (l.first ∷ l.others))
