use Rattle.std.proofs.Common.{◌≡◌, ◌++◌, drop}
use Rattle.everyday_tabs.specs.Stops.{up_to_zero}
use Rattle.everyday_tabs.proofs.stops.up_to_zero.Given as goal

-- the stops before, and then what is kept of the rest
abbrev pub invariant-loop-stop : goal.invariant-loop-stop
invariant-loop-stop l = l.kept.items ++ up_to_zero (drop l.stop-index l.stops) ≡ up_to_zero l.stops
