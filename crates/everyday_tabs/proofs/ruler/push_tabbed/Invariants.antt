use Rattle.std.proofs.Common.{◌≡◌, ◌++◌, drop}
use Rattle.everyday_tabs.specs.Ruler.{tabbed_marks}
use Rattle.everyday_tabs.proofs.ruler.push_tabbed.Given as goal

-- the marks of the stops before, and then those of the rest
abbrev pub invariant-loop-stop : goal.invariant-loop-stop
invariant-loop-stop l = l.text.items ++ tabbed_marks l.columns (drop l.stop-index l.stops) ≡ l.initial.text.items ++ tabbed_marks l.columns l.stops
