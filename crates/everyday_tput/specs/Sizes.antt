-- How many columns and lines there are (tput(1), use_env(3X)): by the environment, the window and
-- the entry.
use Rattle.std.specs.Prelude.{ℕ, nat_lt, Bool, if◌then◌else◌, List, codes, Option, Some, None, option_and_then, option_map, unwrap_or}
use Rattle.std.specs.Option.{option_or}
use Rattle.ti_layout.specs.View.{Entry, shown_number}
use Rattle.tools_tput.specs.Entries.{content_named}
use Rattle.everyday_tput.specs.Numbers.{size_in}
use Rattle.everyday_tput.specs.declared.sizes.Sources as declared

-- what is said of one of the two outside the entry: the value of its variable, and that of the
-- window
pub record Sources : Type 0 where
  pub variable : Option (List ℕ)
  pub window : Option (List ℕ)

-- the same, as plain data
abbrev pub sources_of : declared.Sources → Sources
sources_of s = record { variable = option_map (λ value. value.now) s.variable; window = option_map (λ value. value.now) s.window }

-- a number, if it is over 0
abbrev pub over_zero : Option ℕ → Option ℕ
over_zero None = None
over_zero (Some n) = if nat_lt 0 n then Some n else None

-- The size: that of the variable, unless the terminal is named by `-T`; else that of the window; else
-- that of the entry, if it is over 0; else the usual one.
abbrev pub size_by : Bool → Sources → Option ℕ → ℕ → ℕ
size_by is_named sources inherent usual =
    unwrap_or (option_or (if is_named then None else option_and_then size_in sources.variable)
    (option_or (option_and_then size_in sources.window) (over_zero inherent))) usual

-- how many columns there are, 80 if nothing says it
abbrev pub column_count : Bool → Sources → Entry → ℕ
column_count is_named sources entry = size_by is_named sources (shown_number (content_named entry (codes "cols"))) 80

-- how many lines there are, 24 if nothing says it
abbrev pub line_count : Bool → Sources → Entry → ℕ
line_count is_named sources entry = size_by is_named sources (shown_number (content_named entry (codes "lines"))) 24

-- how many columns the window has, if it has lines too
abbrev pub window_columns : Option ℕ → Option ℕ → Option ℕ
window_columns columns None = None
window_columns columns (Some lines) = columns
