use Rattle.std.proofs.Common.{◌≡◌, ◌++◌}
use Rattle.std.specs.Prelude.{replicate}
use Rattle.everyday_toe.proofs.lines.push_copies.Given as goal

-- so many copies were added
abbrev pub invariant-loop-added : goal.invariant-loop-added
invariant-loop-added l = l.text.items ≡ l.initial.text.items ++ replicate l._added l.byte
