use Rattle.std.proofs.Common.{◌≡◌, ◌++◌, map, take}
use Rattle.std.specs.List.{flat_map}
use Rattle.everyday_toe.specs.Placed.{placed_of}
use Rattle.everyday_toe.specs.Listing.{placed_text}
use Rattle.everyday_toe.proofs.listing.push_placed.Given as goal

-- the lines of the rows before
abbrev pub invariant-loop-placed : goal.invariant-loop-placed
invariant-loop-placed l = l.text.items ≡ l.initial.text.items ++ flat_map placed_text (map placed_of (take l.placed-index l.rows))
