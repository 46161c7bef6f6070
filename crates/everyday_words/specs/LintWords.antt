-- What the words after `ti-lint` ask for (own).
use Rattle.std.specs.Prelude.{List, [], codes, Option, Some, None, Result, Ok, Err, if◌then◌else◌}
use Rattle.std.specs.Option.{unwrap_or}
use Rattle.std.specs.Str.{bytes_eq}
use Rattle.clap.specs.Walk.{Row, Text, all_of, first_of}
use Rattle.tools_commands.specs.Matches.{is_on}
use Rattle.tools_commands.specs.declared.mistakes.Mistake.{Mistake}
use Rattle.tools_commands.specs.declared.mistakes.Mistake.TheVariants as mistake
use Rattle.everyday_words.specs.FmtWords.{files_in}
use Rattle.everyday_words.specs.Requests.{Wanted, wants_lint}
use Rattle.everyday_words.specs.declared.requests.LintForm.{LintForm}
use Rattle.everyday_words.specs.declared.requests.LintForm.TheVariants as form
use Rattle.everyday_words.specs.declared.requests.LintColor.{LintColor}
use Rattle.everyday_words.specs.declared.requests.LintColor.TheVariants as color

-- the form that a text names; `gcc` if none is given
abbrev pub form_for : Option Text → Option LintForm
form_for None = Some form.Gcc
form_for (Some text) =
    if bytes_eq text (codes "gcc") then Some form.Gcc
    else if bytes_eq text (codes "github") then Some form.Github
    else if bytes_eq text (codes "json") then Some form.Json
    else None

-- when colors are used by what a text says: on a terminal, if nothing is said
abbrev pub color_for : Option Text → Option LintColor
color_for None = Some color.Auto
color_for (Some text) =
    if bytes_eq text (codes "always") then Some color.Always
    else if bytes_eq text (codes "never") then Some color.Never
    else if bytes_eq text (codes "auto") then Some color.Auto
    else None

-- what is asked for, if the form and the use of colors are there
abbrev pub lint_at : Option LintForm → Option LintColor → List Row → List Text → Result Wanted Mistake
lint_at None colored rows paths = Err mistake.NoCommandLine
lint_at (Some named) None rows paths = Err mistake.NoCommandLine
lint_at (Some named) (Some colored) rows paths = Ok (wants_lint (record {
  user_defined = is_on (codes "user") rows;
  strict = is_on (codes "strict") rows;
  fix = is_on (codes "fix") rows;
  form = named;
  color = colored;
  files = files_in paths;
}))

-- what is asked for with these matches and paths
abbrev pub lint_with : List Row → List Text → Result Wanted Mistake
lint_with rows paths =
    lint_at (form_for (first_of (codes "format") rows)) (color_for (first_of (codes "color") rows)) rows paths

-- what is asked for with these matches
abbrev pub lint_asked : List Row → Result Wanted Mistake
lint_asked rows = lint_with rows (unwrap_or (all_of (codes "files") rows) [])
