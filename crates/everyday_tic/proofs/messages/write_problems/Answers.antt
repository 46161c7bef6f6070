use Rattle.std.proofs.Common.{arith}
use Rattle.everyday_tic.specs.Messages.{problem_line}
use Rattle.everyday_sources.specs.Used.{problem_seen}
use Rattle.everyday_sources.proofs.Appending.{all_in_turn, in_turn}
use Rattle.everyday_tic.proofs.messages.write_problems.Goals as goal

pub loop-problem-preserved : goal.loop-problem-preserved
loop-problem-preserved c =
    in_turn problem_seen problem_line c.args.problems.now c.loop-problem.problem-index c.problem-item.result c.loop-problem.out.items
    c.write_problem.new.out.items _ (omega arith) c.problem-item.is c.in_ok-write_problem.ensures c.loop-problem.invariant

pub returns : goal.returns
returns c =
    all_in_turn problem_seen problem_line c.args.problems.now c.loop-problem.problem-index c.loop-problem.out.items _ (omega arith) c.loop-problem.invariant
