-- What the words after `ti-fmt` ask for (own).
use Rattle.std.specs.Prelude.{ℕ, ◌&&◌, Bool, false, if◌then◌else◌, List, [], ◌∷◌, codes, Option, Some, None, Result, Ok, Err}
use Rattle.std.specs.Option.{unwrap_or}
use Rattle.std.specs.Str.{bytes_eq}
use Rattle.clap.specs.Walk.{Row, Text, all_of, first_of}
use Rattle.tools_commands.specs.InfocmpWords.{width_for}
use Rattle.tools_commands.specs.Matches.{is_on}
use Rattle.tools_commands.specs.declared.mistakes.Mistake.{Mistake}
use Rattle.tools_commands.specs.declared.mistakes.Mistake.TheVariants as mistake
use Rattle.everyday_words.specs.Requests.{Wanted, wants_fmt}

-- how many columns a line has at most, if it is not said
abbrev pub columns_default : ℕ
columns_default = 80

-- the same where each item has its own line: no second one fits
abbrev pub columns_of_one : ℕ
columns_of_one = 0

-- the columns that a text says, if they are some that may be asked for
abbrev pub columns_for : Option Text → Option ℕ
columns_for None = Some columns_default
columns_for (Some text) = width_for (Some text)

-- the columns of a line, if they are some that may be asked for: `-1` decides, whatever the width is
abbrev pub columns_asked : List Row → Option ℕ
columns_asked rows = if is_on (codes "one") rows then Some columns_of_one else columns_for (first_of (codes "width") rows)

-- whether words are `-` alone, which stands for standard input
abbrev pub is_dash : List Text → Bool
is_dash (path ∷ []) = bytes_eq path (codes "-")
is_dash _ = false

-- the files of the sources, none for standard input
abbrev pub files_in : List Text → List Text
files_in paths = if is_dash paths then [] else paths

-- what is asked for, if the columns are there
abbrev pub fmt_at : Option ℕ → (check keep : Bool) → List Text → Result Wanted Mistake
fmt_at None check keep paths = Err mistake.NoCommandLine
fmt_at (Some width) check keep paths = Ok (wants_fmt (record { check = check; width = width; keep = keep; files = files_in paths }))

-- whether lines are to be kept, and each item is to have its own
abbrev pub keeps_items : List Row → Bool
keeps_items rows = is_on (codes "keep") rows && is_on (codes "one") rows

-- what is asked for with these matches and paths
abbrev pub fmt_with : List Row → List Text → Result Wanted Mistake
fmt_with rows paths =
    if keeps_items rows then Err mistake.KeepBesideOne else fmt_at (columns_asked rows) (is_on (codes "check") rows) (is_on (codes "keep") rows) paths

-- what is asked for with these matches
abbrev pub fmt_asked : List Row → Result Wanted Mistake
fmt_asked rows = fmt_with rows (unwrap_or (all_of (codes "files") rows) [])
