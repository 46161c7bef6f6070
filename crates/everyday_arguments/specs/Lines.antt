-- What clap reads of a command line in a table: its name and its arguments in turn (own).
use Rattle.std.specs.Prelude.{true}
use Rattle.std.specs.List.{fold}
use Rattle.clap.specs.Simple.{App, new_app, on_top}
use Rattle.clap.specs.Walk.{Text}
use Rattle.tools_commands.specs.Rules.{with_argument}
use Rattle.everyday_arguments.specs.declared.lines.CommandLine.{CommandLine}

-- a command of that name that says its version, of which an option may be said again
abbrev pub everyday_app : Text → App
everyday_app name = on_top (λ top. record top { has_version = true; args_override_self = true }) (new_app name)

-- the command of a command line in a table
abbrev pub app_for : CommandLine → App
app_for line = fold with_argument (everyday_app line.name.now) line.arguments.now
