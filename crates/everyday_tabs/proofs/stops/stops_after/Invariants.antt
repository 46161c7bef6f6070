use Rattle.std.proofs.Common.{◌≡◌, ◌++◌, drop, map}
use Rattle.everyday_tabs.specs.Stops.{stops_after}
use Rattle.everyday_tabs.proofs.stops.stops_after.Given as goal

-- the stops of the items before, and then those of the rest
abbrev pub invariant-loop-item : goal.invariant-loop-item
invariant-loop-item l = l.stops.items ++ stops_after l.columns l.margin l.before (map (λ item. item.now) (drop l.item-index l.items))
    ≡ stops_after l.columns l.margin 0 (map (λ item. item.now) l.items)
