use Rattle.std.proofs.Common.{◌≡◌, ◌++◌, drop, map}
use Rattle.std.specs.List.{flat_map}
use Rattle.everyday_tic.specs.Messages.{problem_line}
use Rattle.everyday_sources.specs.Used.{problem_seen}
use Rattle.everyday_tic.proofs.messages.write_problems.Given as goal

-- what was appended, and the lines that are left
abbrev pub invariant-loop-problem : goal.invariant-loop-problem
invariant-loop-problem l =
    l.out.items ++ flat_map problem_line (map problem_seen (drop l.problem-index l.problems))
    ≡ l.initial.out.items ++ flat_map problem_line (map problem_seen l.problems)
