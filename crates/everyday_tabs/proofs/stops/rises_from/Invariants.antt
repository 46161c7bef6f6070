use Rattle.std.proofs.Common.{◌≡◌, drop}
use Rattle.everyday_tabs.specs.Stops.{rises_from}
use Rattle.everyday_tabs.proofs.stops.rises_from.Given as goal

-- the rest decides
abbrev pub invariant-loop-stop : goal.invariant-loop-stop
invariant-loop-stop l = rises_from l.before (drop l.stop-index l.stops) ≡ rises_from l.first l.stops
