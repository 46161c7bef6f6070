use Rattle.std.proofs.Common.{◌≡◌, false, take}
use Rattle.std.specs.List.{fold}
use Rattle.clap.specs.Words.{app_of}
use Rattle.clap.specs.declared.builder.Command.TheViews.{out-Command as fields_of}
use Rattle.tools_commands.specs.inside.Commands.{program_app, with_tool}
use Rattle.tools_commands.proofs.commands.program_of.Given as goal

-- the tools before are subcommands
abbrev pub invariant-loop-tool : goal.invariant-loop-tool
invariant-loop-tool l = (app_of l.program ≡ fold with_tool program_app (take l.tool-index l.tools))
    × ((fields_of l.program).has_globals ≡ false)
