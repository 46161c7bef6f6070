-- each tool is a subcommand after those before it
use Rattle.std.proofs.Common.{◌≡◌, ◌≤◌, ◌∙◌, List, ap, arith, length, rules, sym}
use Rattle.std.specs.List.{fold}
use Rattle.std.proofs.lemmas.List.{take_all}
use Rattle.std.proofs.lemmas.List.Sums.{fold_more}
use Rattle.clap.specs.Words.{app_of}
use Rattle.tools_commands.specs.inside.Commands.{choices_in, program_app, with_tool}
use Rattle.tools_commands.specs.declared.commands.Tool.{Tool}
use Rattle.tools_commands.proofs.Added.{tool_behind}
use Rattle.tools_commands.proofs.commands.program_of.Goals as goal

pub loop-tool-preserved : goal.loop-tool-preserved
loop-tool-preserved c = (
  tool_behind _ c.loop-tool.invariant.0 c.in_ok-program.ensures.app
      ∙ sym (fold_more with_tool _ c.args.tools.now c.loop-tool.tool-index _ (search rules)),
  c.in_ok-program.ensures.local,
)

pub returns-clause-app : goal.returns-clause-app
returns-clause-app c =
    let tools = c.args.tools.now in
    let past : length tools ≤ c.loop-tool.tool-index = omega arith in
    let all : app_of c.loop-tool.program ≡ fold with_tool program_app tools =
    c.loop-tool.invariant.0 ∙ ap (λ (seen : List Tool). fold with_tool program_app seen) (take_all c.loop-tool.tool-index tools past) in
    (choices_in tools, c.requires.orders, all ∙ c.requires.app)
