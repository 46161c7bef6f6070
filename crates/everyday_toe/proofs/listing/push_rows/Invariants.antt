use Rattle.std.proofs.Common.{◌≡◌, ◌++◌, map, take}
use Rattle.std.specs.List.{flat_map}
use Rattle.everyday_toe.specs.Seeing.{row_line}
use Rattle.everyday_toe.specs.Listing.{line_text}
use Rattle.everyday_toe.proofs.listing.push_rows.Given as goal

-- the lines of the rows before
abbrev pub invariant-loop-row : goal.invariant-loop-row
invariant-loop-row l = l.text.items ≡ l.initial.text.items ++ flat_map line_text (map row_line (take l.row-index l.rows))
