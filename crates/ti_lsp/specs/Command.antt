-- The command line that the program takes, as what clap reads of it (ti-lsp(1)), and what it asks
-- for.
use Rattle.std.specs.Prelude.{◌≡◌, ◌≢◌, ◌⊎◌, [], Some, codes, true}
use Rattle.clap.specs.Kinds.{IsAmong, Kinds}
use Rattle.clap.specs.Simple.{App, new_app, new_rule, on_top, with_rule}
use Rattle.clap.specs.Walk.{Rule}
use Rattle.clap.specs.declared.builder.action.ArgAction.TheVariants.{SetTrue}
use Rattle.clap.specs.declared.error.ErrorKind.{ErrorKind}
use Rattle.clap.specs.declared.error.ErrorKind.TheVariants.{DisplayHelp, DisplayVersion}
use Rattle.ti_lsp.specs.declared.command.Task.{Task}
use Rattle.ti_lsp.specs.declared.command.Task.TheVariants.{Serve, Text, Refusal}

-- the option `--stdio`, by which clients say how they speak (LSP 3.17, "Implementation
-- Considerations")
abbrev pub stdio_rule : Rule
stdio_rule = record (new_rule (codes "stdio")) { long = Some (codes "stdio"); action = Some SetTrue }

-- `ti-lsp [--stdio]`, with `--help` and `--version`
abbrev pub lsp_app : App
lsp_app = with_rule (on_top (λ top. record top { has_version = true }) (new_app (codes "ti-lsp"))) stdio_rule

-- clap returns a text: it was asked for the help or the version
abbrev pub AsksForText : ErrorKind → Type 0
AsksForText kind = (kind ≡ DisplayHelp) ⊎ (kind ≡ DisplayVersion)

-- what comes of an error of this kind
abbrev pub IsSaidOf : ErrorKind → Task → Type 0
IsSaidOf kind Serve = ⊥
IsSaidOf kind (Text text) = AsksForText kind
IsSaidOf kind (Refusal text) = (kind ≢ DisplayHelp) × (kind ≢ DisplayVersion)

-- what words ask for of which clap has these kinds of error: it is served exactly if there is none
abbrev pub IsAskedBy : Kinds → Task → Type 0
IsAskedBy kinds Serve = kinds ≡ []
IsAskedBy kinds task = (kind : ErrorKind) × IsAmong kind kinds × IsSaidOf kind task
