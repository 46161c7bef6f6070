use Rattle.std.proofs.Common.{◌≡◌, ◌++◌, drop, map}
use Rattle.everyday_toe.specs.Listing.{arrows_from, directory_of}
use Rattle.everyday_toe.proofs.listing.push_arrows.Given as goal

-- the lines of the directories before, and then those of the rest
abbrev pub invariant-loop-column : goal.invariant-loop-column
invariant-loop-column l = l.text.items ++ arrows_from l.column (map directory_of (drop l.column l.directories))
    ≡ l.initial.text.items ++ arrows_from 0 (map directory_of l.directories)
