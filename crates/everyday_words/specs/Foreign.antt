-- Options of ncurses's tools that help does not show (tic(1), infocmp(1) and toe(1) of ncurses 6.4): those
-- that are taken, which but for one change nothing, and those that are refused by name.
use Rattle.std.specs.Prelude.{ℕ, ◌++◌, if◌then◌else◌, List, [], ◌∷◌, codes, Option, Some, None}
use Rattle.clap.specs.Simple.{App, with_rule}
use Rattle.clap.specs.Walk.{Row, Text}
use Rattle.tools_commands.specs.Matches.{is_on}
use Rattle.tools_commands.specs.Rules.{flag_rule, option_rule}
use Rattle.tools_commands.specs.Rules.{is_given}
use Rattle.everyday_arguments.specs.declared.names.Tool.{Tool}
use Rattle.everyday_arguments.specs.declared.names.Tool.TheVariants as tool

-- ---- which there are, by their letters

-- options that are on or off, and are taken. Those of `ti-tic` are about translations and traces of
-- ncurses, the digits among them after `-Q`, `-v` and `-w`; so are those of `ti-toe`. `-a` of
-- `ti-infocmp` is its `-x`.
abbrev pub taken_flags : Tool → List ℕ
taken_flags tool.Tic = codes "0123456789fGgKNQqrTtUvWw"
taken_flags tool.Infocmp = codes "alqtU"
taken_flags tool.Toe = codes "0123456789v"
taken_flags _ = []

-- options with a value that are taken, and change nothing
abbrev pub taken_values : Tool → List ℕ
taken_values tool.Tic = codes "R"
taken_values tool.Infocmp = codes "v"
taken_values _ = []

-- options that are on or off, and are refused
abbrev pub refused_flags : Tool → List ℕ
refused_flags tool.Tic = codes "aCIL"
refused_flags tool.Infocmp = codes "FfGgiKLpW"
refused_flags _ = []

-- options with a value that are refused
abbrev pub refused_values : Tool → List ℕ
refused_values tool.Infocmp = codes "QR"
refused_values tool.Toe = codes "uU"
refused_values _ = []

-- ---- what they are to clap, each by its letter

-- a command with options of these letters that are on or off
abbrev pub with_flags : List ℕ → App → App
with_flags [] app = app
with_flags (letter ∷ letters) app = with_flags letters (with_rule app (flag_rule (letter ∷ []) letter))

-- a command with options of these letters that have a value
abbrev pub with_values : List ℕ → App → App
with_values [] app = app
with_values (letter ∷ letters) app = with_values letters (with_rule app (option_rule (letter ∷ []) letter))

-- a tool's command with all these options
abbrev pub with_foreign : Tool → App → App
with_foreign t app =
    with_values (refused_values t) (with_flags (refused_flags t) (with_values (taken_values t) (with_flags (taken_flags t) app)))

-- ---- which is refused

-- the first of these options that is on, else what else there is
abbrev pub first_on : List ℕ → List Row → Option Text → Option Text
first_on [] rows later = later
first_on (letter ∷ letters) rows later = if is_on (letter ∷ []) rows then Some (letter ∷ []) else first_on letters rows later

-- the first of these options that is given, if one is
abbrev pub first_given : List ℕ → List Row → Option Text
first_given [] rows = None
first_given (letter ∷ letters) rows = if is_given (letter ∷ []) rows then Some (letter ∷ []) else first_given letters rows

-- the option that a tool refuses with these matches, if there is one
abbrev pub refused_option : Tool → List Row → Option Text
refused_option t rows = first_on (refused_flags t) rows (first_given (refused_values t) rows)

-- what is said of an option that is refused
abbrev pub unsupported_text : Text → Text
unsupported_text letter = codes "-" ++ letter ++ codes " is not supported"
