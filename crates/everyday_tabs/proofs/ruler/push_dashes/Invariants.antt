use Rattle.std.proofs.Common.{◌≡◌, ◌++◌}
use Rattle.everyday_tabs.specs.Ruler.{dashes}
use Rattle.everyday_tabs.proofs.ruler.push_dashes.Given as goal

-- so many dashes were added
abbrev pub invariant-loop-added : goal.invariant-loop-added
invariant-loop-added l = l.text.items ≡ l.initial.text.items ++ dashes l._added
