use Rattle.std.proofs.Common.{◌≡◌, ◌++◌, map, drop}
use Rattle.std.specs.List.{flat_map}
use Rattle.ti_layout.specs.View.{entry_seen}
use Rattle.ti_list.specs.Comparison.{comparison}
use Rattle.everyday_infocmp.proofs.plain_listings.comparisons.Given as goal

-- what was written, and the comparisons with the others that are left
abbrev pub invariant-loop-other : goal.invariant-loop-other
invariant-loop-other l =
    l.text.items ++ flat_map (λ other. comparison (entry_seen l.first) other l.mode l.order) (map (λ e. entry_seen e) (drop l.other-index l.others))
    ≡ flat_map (λ other. comparison (entry_seen l.first) other l.mode l.order) (map (λ e. entry_seen e) l.others)
