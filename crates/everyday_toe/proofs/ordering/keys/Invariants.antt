use Rattle.std.proofs.Common.{◌≡◌, ◌++◌, drop, map}
use Rattle.everyday_toe.specs.Ordering.{key_of, numbered_from}
use Rattle.everyday_toe.specs.Placed.{placed_of}
use Rattle.everyday_toe.proofs.ordering.keys.Given as goal

-- the keys of the rows before, and then those of the rest
abbrev pub invariant-loop-number : goal.invariant-loop-number
invariant-loop-number l = map key_of l.keys.items ++ numbered_from l.number (map placed_of (drop l.number l.rows)) ≡ numbered_from 0 (map placed_of l.rows)
