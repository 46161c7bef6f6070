-- the matches of the subcommand that was used
use Rattle.std.proofs.Common.{◌≡◌, rules, subst, sym}
use Rattle.clap.specs.Words.{found_of, rows_of, subcommand_rows_of}
use Rattle.tools_commands.specs.Arguments.{Asked, task_at, task_in}
use Rattle.tools_commands.specs.inside.Jobs.{Answers}
use Rattle.tools_commands.proofs.arguments.used_job.Goals as goal

pub returns-in-Some : goal.returns-in-Some
returns-in-Some c =
    let same : task_in (subcommand_rows_of c.args.matches.now) ≡ task_at c.in-Some.name.now (rows_of (found_of c.in-Some.inner.now)) = search rules in
    subst (λ (asked : Asked). Answers asked c.tool_job.result) (sym same) c.tool_job.ensures
