use Rattle.std.proofs.Common.{◌≡◌, ◌++◌, drop, map}
use Rattle.everyday_starting.specs.Starting.{part_of}
use Rattle.everyday_tabs.specs.Setting.{stops_from}
use Rattle.everyday_tabs.proofs.setting.push_stops_from.Given as goal

-- the stops before, and then those of the rest
abbrev pub invariant-loop-stop : goal.invariant-loop-stop
invariant-loop-stop l = map part_of l.parts.items ++ stops_from l.set l.columns l.before (drop l.stop-index l.stops)
    ≡ map part_of l.initial.parts.items ++ stops_from l.set l.columns 1 l.stops
