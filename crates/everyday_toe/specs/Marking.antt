-- The marks that show which directory has an entry (toe(1), `-a` and `-s`): a line for each name, with
-- a column for each directory. `*` marks an entry that differs from the one in the last column
-- before that has one, or the first, and `+` one that does not. If a directory has a name twice, in
-- two subdirectories, it has two columns for it, and those without the name make up for that.
use Rattle.std.specs.Prelude.{ℕ, ◌+◌, ◌-◌, ◌^◌, ◌++◌, ◌==◌, max, min, if◌then◌else◌, bytes_eq, List, [], ◌∷◌, codes, Option, Some, None}
use Rattle.everyday_toe.specs.Lines.{dashes, entry_line}
use Rattle.everyday_toe.specs.Placed.{Placed}
use Rattle.everyday_toe.specs.declared.marking.Open as declared

-- a line that is not at its end: the name and the description of its first row, the sum of its last,
-- and how many columns it has so far
pub record Open : Type 0 where
  pub name : List ℕ
  pub description : List ℕ
  pub sum : ℕ
  pub columns : ℕ

-- the same, as plain data
abbrev pub open_of : declared.Open → Open
open_of o = record { name = o.name.now; description = o.description.now; sum = o.sum; columns = o.columns }

-- how many columns a line has once a row of a directory is marked after so many, in 64 bits
abbrev pub columns_after : ℕ → ℕ → ℕ
columns_after columns directory = min (max columns directory + 1) (2 ^ 64 - 1)

-- the end of a line, of so many directories
abbrev pub closing : ℕ → Option Open → List ℕ
closing count None = []
closing count (Some o) = dashes (count - o.columns) ++ codes ":\t" ++ entry_line o.name o.description

-- the mark of the first row of a line
abbrev pub fresh_text : Placed → List ℕ
fresh_text p = dashes p.directory ++ codes "*-"

-- the mark of a later row
abbrev pub mark_of : Open → Placed → List ℕ
mark_of o p = dashes (p.directory - o.columns) ++ (if o.sum == p.line.sum then codes "+-" else codes "*-")

-- what a row adds: a mark, after the end of the line before it if its name is another
abbrev pub step_text : ℕ → Option Open → Placed → List ℕ
step_text count None p = fresh_text p
step_text count (Some o) p = if bytes_eq o.name p.line.name then mark_of o p else closing count (Some o) ++ fresh_text p

-- the line that a row begins
abbrev pub begun : Placed → Open
begun p = record { name = p.line.name; description = p.line.description; sum = p.line.sum; columns = columns_after 0 p.directory }

-- the line that is not at its end after a row
abbrev pub opened : Option Open → Placed → Open
opened None p = begun p
opened (Some o) p =
    if bytes_eq o.name p.line.name then record { name = o.name; description = o.description; sum = p.line.sum; columns = columns_after o.columns p.directory }
    else begun p

-- the lines of rows in the order of their names
abbrev pub marked : ℕ → Option Open → List Placed → List ℕ
marked count line [] = closing count line
marked count line (p ∷ ps) = step_text count line p ++ marked count (Some (opened line p)) ps
