use Rattle.std.proofs.Common.{◌≡◌, ◌++◌, drop, map}
use Rattle.everyday_toe.specs.Placed.{placed_of}
use Rattle.everyday_toe.specs.Listing.{directory_of, placed_from}
use Rattle.everyday_toe.proofs.listing.placed.Given as goal

-- the rows of the directories before, and then those of the rest
abbrev pub invariant-loop-number : goal.invariant-loop-number
invariant-loop-number l = map placed_of l.placed.items ++ placed_from l.number (map directory_of (drop l.number l.directories))
    ≡ placed_from 0 (map directory_of l.directories)
