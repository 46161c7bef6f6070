-- The rows of the table of toe(1), each of a directory.
use Rattle.std.specs.Prelude.{ℕ}
use Rattle.everyday_toe.specs.Seeing.{Line, row_line}
use Rattle.everyday_toe.specs.declared.ordering.Placed as declared

-- a line, and the number of its directory, counted from 0
pub record Placed : Type 0 where
  pub directory : ℕ
  pub line : Line

-- the same, as plain data
abbrev pub placed_of : declared.Placed → Placed
placed_of p = record { directory = p.directory; line = row_line p.row.now }
