use Rattle.std.proofs.Common.{◌≡◌, ◌++◌, map, take}
use Rattle.everyday_toe.specs.Listing.{placed_as}
use Rattle.everyday_toe.specs.Placed.{placed_of}
use Rattle.everyday_toe.specs.Seeing.{row_line}
use Rattle.everyday_toe.proofs.listing.place_rows.Given as goal

-- the rows before are after the others
abbrev pub invariant-loop-row : goal.invariant-loop-row
invariant-loop-row l = map placed_of l.placed.items ≡ map placed_of l.initial.placed.items ++ placed_as l.number (map row_line (take l.row-index l.rows))
