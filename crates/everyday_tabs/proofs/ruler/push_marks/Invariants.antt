use Rattle.std.proofs.Common.{◌≡◌, ◌++◌, drop}
use Rattle.everyday_tabs.specs.Ruler.{marks_from}
use Rattle.everyday_tabs.proofs.ruler.push_marks.Given as goal

-- the marks of the stops before, and then those of the rest
abbrev pub invariant-loop-stop : goal.invariant-loop-stop
invariant-loop-stop l = l.text.items ++ marks_from l.columns l.before (drop l.stop-index l.stops) ≡ l.initial.text.items ++ marks_from l.columns 0 l.stops
