-- each argument is after those before it
use Rattle.std.proofs.Common.{◌∙◌, rules, sym}
use Rattle.std.proofs.lemmas.List.Sums.{fold_more}
use Rattle.tools_commands.specs.Rules.{with_argument}
use Rattle.tools_commands.proofs.Added.{rule_added, still_local}
use Rattle.tools_commands.proofs.rules.with_arguments.Goals as goal

pub loop-argument-preserved : goal.loop-argument-preserved
loop-argument-preserved c =
    let before = c.loop-argument.invariant in (
      rule_added before.0 c.in_ok-command.ensures c.to_argument.ensures.local c.to_argument.ensures.rule
          ∙ sym (fold_more with_argument _ c.args.arguments.now c.loop-argument.argument-index _ (search rules)),
      still_local before.1 c.in_ok-command.ensures c.to_argument.ensures.local,
    )
