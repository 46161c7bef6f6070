use Rattle.std.proofs.Common.{◌≡◌, ◌++◌, map, drop}
use Rattle.std.specs.List.{flat_map}
use Rattle.user_listing.specs.Comparison.{extended_comparison}
use Rattle.user_listing.specs.Entries.{extended_seen}
use Rattle.everyday_infocmp.proofs.listings.comparisons.Given as goal

-- what was written, and the comparisons with the others that are left
abbrev pub invariant-loop-other : goal.invariant-loop-other
invariant-loop-other l =
    l.text.items ++ flat_map (λ other. extended_comparison (extended_seen l.first) other l.mode l.order)
    (map (λ e. extended_seen e) (drop l.other-index l.others))
    ≡ flat_map (λ other. extended_comparison (extended_seen l.first) other l.mode l.order) (map (λ e. extended_seen e) l.others)
