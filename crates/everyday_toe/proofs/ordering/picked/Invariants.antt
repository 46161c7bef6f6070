use Rattle.std.proofs.Common.{◌≡◌, ◌++◌, drop}
use Rattle.everyday_toe.specs.Ordering.{numbers_of, picked}
use Rattle.everyday_toe.proofs.ordering.picked.Given as goal

-- the rows of the keys before, and then those of the rest
abbrev pub invariant-loop-key : goal.invariant-loop-key
invariant-loop-key l = l.found.items ++ picked l.rows (numbers_of (drop l.key-index l.keys)) ≡ picked l.rows (numbers_of l.keys)
