use Rattle.std.proofs.Common.{◌≡◌, ◌++◌}
use Rattle.everyday_tabs.specs.Ruler.{scale}
use Rattle.everyday_tabs.proofs.ruler.push_scale.Given as goal

-- the columns before were added
abbrev pub invariant-loop-column : goal.invariant-loop-column
invariant-loop-column l = l.text.items ≡ l.initial.text.items ++ scale l.column
