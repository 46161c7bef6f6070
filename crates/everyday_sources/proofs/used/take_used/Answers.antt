use Rattle.std.proofs.Common.{◌∙◌, ◌==◌, None, Some, ap, cond, length, map}
use Rattle.std.specs.String.{string_bytes}
use Rattle.everyday_sources.specs.Used.{problem_seen}
use Rattle.everyday_sources.proofs.Taking.{keeps_faults}
use Rattle.everyday_sources.proofs.used.take_used.Goals as goal

pub returns-clause-faults : goal.returns-clause-faults
returns-clause-faults g c =
    keeps_faults c.args.database.now.rule c.args.user_defined (g.T.Tree.files c.args.tree.now) (map string_bytes c.args.directories.now) c.args.database.now.texts _
    c.take_all.new.database.texts (g.T.Tree.failures c.args.tree.now) (g.T.Tree.failures c.take_all.new.tree)
    (map problem_seen c.in_ok-problems.problems.items) c.in_ok-faults.faults c.kept_faults.result c.in_ok-problems.ensures.taken
    (c.in_ok-faults.ensures.all, c.in_ok-faults.ensures.placed)
    (c.kept_faults.ensures ∙ ap (λ n. cond (length c.take_all.new.database.texts == n) (Some c.in_ok-faults.faults) None) c.len-count.ensures)
