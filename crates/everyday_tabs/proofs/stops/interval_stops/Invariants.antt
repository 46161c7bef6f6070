use Rattle.std.proofs.Common.{◌≡◌}
use Rattle.everyday_tabs.specs.Stops.{interval_stops}
use Rattle.everyday_tabs.proofs.stops.interval_stops.Given as goal

-- the first stops
abbrev pub invariant-loop-index : goal.invariant-loop-index
invariant-loop-index l = l.stops.items ≡ interval_stops l.first l.interval l.index
