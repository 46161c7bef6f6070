use Rattle.std.proofs.Common.{◌≡◌, ◌++◌, None, drop, map}
use Rattle.std.specs.Prelude.{option_map}
use Rattle.everyday_toe.specs.Marking.{marked, open_of}
use Rattle.everyday_toe.specs.Placed.{placed_of}
use Rattle.everyday_toe.proofs.marking.push_marked.Given as goal

-- what was added, and then what the rest adds
abbrev pub invariant-loop-placed : goal.invariant-loop-placed
invariant-loop-placed l = l.text.items ++ marked l.count (option_map open_of l.line) (map placed_of (drop l.placed-index l.rows))
    ≡ l.initial.text.items ++ marked l.count None (map placed_of l.rows)
