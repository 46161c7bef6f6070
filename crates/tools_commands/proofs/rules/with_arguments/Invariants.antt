use Rattle.std.proofs.Common.{◌≡◌, false, take}
use Rattle.std.specs.List.{fold}
use Rattle.clap.specs.Words.{app_of}
use Rattle.clap.specs.declared.builder.Command.TheViews.{out-Command as fields_of}
use Rattle.tools_commands.specs.Rules.{with_argument}
use Rattle.tools_commands.proofs.rules.with_arguments.Given as goal

-- the arguments before are after those that the command had
abbrev pub invariant-loop-argument : goal.invariant-loop-argument
invariant-loop-argument l = (app_of l.command ≡ fold with_argument (app_of l.initial.command) (take l.argument-index l.arguments))
    × ((fields_of l.command).has_globals ≡ false)
