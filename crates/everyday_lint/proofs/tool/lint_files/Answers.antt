-- memory may run out after the last file
use Rattle.std.proofs.Common.{map, string_bytes}
use Rattle.everyday_fmt.specs.Fates.{held}
use Rattle.everyday_lint.proofs.Turns.{StopsAmong-all, on_err}
use Rattle.everyday_lint.proofs.tool.lint_files.Goals as goal

pub returns-clause-refused : goal.returns-clause-refused
returns-clause-refused g c =
    let before = held g.T.Tree.files g.T.Tree.failures g.T.ReasonedTree.cause c.args.tree.now in
    let after = held g.T.Tree.files g.T.Tree.failures g.T.ReasonedTree.cause c.lint_each.new.tree in
    on_err c.outcome_of.result _
    (StopsAmong-all c.args.options (map string_bytes c.args.paths.now) before after c.in_ok-done.done.items c.in_ok-done.ensures.done)
