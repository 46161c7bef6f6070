use Rattle.std.proofs.Common.{◌≡◌, drop}
use Rattle.tools_commands.specs.Matches.{matched_rows}
use Rattle.tools_commands.specs.Rules.{first_refused}
use Rattle.tools_commands.proofs.rules.refused_option.Given as goal

-- those before are not refused
abbrev pub invariant-loop-argument : goal.invariant-loop-argument
invariant-loop-argument l =
    first_refused (drop l.argument-index l.arguments) (matched_rows l.matches) ≡ first_refused l.arguments (matched_rows l.matches)
