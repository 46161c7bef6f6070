-- The table of the entries of directories (toe(1)).
use Rattle.std.specs.Prelude.{◌≡◌, ℕ, ◌+◌, ◌++◌, ◌&&◌, ◌||◌, nat_le, Bool, true, false}
use Rattle.std.specs.Prelude.{if◌then◌else◌, is_some, List, [], ◌∷◌, length, map, Option, None, option_map}
use Rattle.std.specs.List.{flat_map}
use Rattle.std.specs.Option.{unwrap_or}
use Rattle.std.specs.String.{string_bytes}
use Rattle.everyday_toe.specs.Lines.{arrow_line, entry_line, heading_line}
use Rattle.everyday_toe.specs.Marking.{marked}
use Rattle.everyday_toe.specs.Ordering.{Sorts}
use Rattle.everyday_toe.specs.Placed.{Placed}
use Rattle.everyday_toe.specs.Seeing.{Line, row_line}
use Rattle.everyday_toe.specs.declared.listing.Directory as declared

-- a directory: its path, and the lines of its files in the order in which the system gives these, if
-- it can be read
pub record Directory : Type 0 where
  pub path : List ℕ
  pub lines : Option (List Line)

-- the same, as plain data
abbrev pub directory_of : declared.Directory → Directory
directory_of d = record { path = string_bytes d.path; lines = option_map (λ rows. map row_line rows.items) d.rows }

-- its lines, none if it cannot be read
abbrev pub lines_in : Directory → List Line
lines_in d = unwrap_or d.lines []

-- the line of an entry
abbrev pub line_text : Line → List ℕ
line_text line = entry_line line.name line.description

-- ---- without an order

-- the heading of a directory, if it is to have one and can be read
abbrev pub heading_of : Bool → Directory → List ℕ
heading_of headings d = if headings && is_some d.lines then heading_line d.path else []

-- the heading and the lines of a directory
abbrev pub plain_text : Bool → Directory → List ℕ
plain_text headings d = heading_of headings d ++ flat_map line_text (lines_in d)

-- ---- in the order of the names

-- the headings of all directories
abbrev pub headings_text : Bool → List Directory → List ℕ
headings_text headings ds = flat_map (heading_of headings) ds

-- lines as rows of the directory of that number
abbrev pub placed_as : ℕ → List Line → List Placed
placed_as number lines = map (λ line. record { directory = number; line = line }) lines

-- the rows of a directory of that number
abbrev pub placed_in : ℕ → Directory → List Placed
placed_in number d = placed_as number (lines_in d)

-- the rows of directories, of which the first has that number
abbrev pub placed_from : ℕ → List Directory → List Placed
placed_from number [] = []
placed_from number (d ∷ ds) = placed_in number d ++ placed_from (number + 1) ds

-- the lines that say which column is that of which directory, of which the first has that number
abbrev pub arrows_from : ℕ → List Directory → List ℕ
arrows_from number [] = []
arrows_from number (d ∷ ds) = arrow_line number d.path ++ arrows_from (number + 1) ds

-- the line of a row
abbrev pub placed_text : Placed → List ℕ
placed_text p = line_text p.line

-- the lines of rows that are in order: with marks if there are several directories
abbrev pub sorted_lines : List Directory → List Placed → List ℕ
sorted_lines ds rows =
    if nat_le (length ds) 1 || nat_le (length rows) 0 then flat_map placed_text rows
    else arrows_from 0 ds ++ marked (length ds) None rows

-- ---- the table

-- The table: of each directory its heading and its lines; or all headings, and then the lines of all
-- directories in the order of their names.
abbrev pub IsTable : (headings sorted : Bool) → List Directory → List ℕ → Type 0
IsTable headings false ds text = text ≡ flat_map (plain_text headings) ds
IsTable headings true ds text =
    (rows : List Placed) × Sorts (placed_from 0 ds) rows × (text ≡ headings_text headings ds ++ sorted_lines ds rows)
