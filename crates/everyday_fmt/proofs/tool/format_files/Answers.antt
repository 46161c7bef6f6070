-- memory may run out after the last file
use Rattle.std.proofs.Common.{map, string_bytes}
use Rattle.everyday_fmt.specs.Fates.{held}
use Rattle.everyday_fmt.proofs.Formatted.{StopsAmong-all, on_err}
use Rattle.everyday_fmt.proofs.tool.format_files.Goals as goal

pub returns-in_err-name_lines-clause-refused : goal.returns-in_err-name_lines-clause-refused
returns-in_err-name_lines-clause-refused g c =
    let before = held g.T.Tree.files g.T.Tree.failures g.T.ReasonedTree.cause c.args.tree.now in
    let after = held g.T.Tree.files g.T.Tree.failures g.T.ReasonedTree.cause c.format_each.new.tree in
    on_err c.from_residual-in_err-name_lines.result _
    (StopsAmong-all c.args.options (map string_bytes c.args.paths.now) before after c.in_ok-done.done.items c.in_ok-done.ensures.done)

pub returns-in_err-error_lines-clause-refused : goal.returns-in_err-error_lines-clause-refused
returns-in_err-error_lines-clause-refused g c =
    let before = held g.T.Tree.files g.T.Tree.failures g.T.ReasonedTree.cause c.args.tree.now in
    let after = held g.T.Tree.files g.T.Tree.failures g.T.ReasonedTree.cause c.format_each.new.tree in
    on_err c.from_residual-in_err-error_lines.result _
    (StopsAmong-all c.args.options (map string_bytes c.args.paths.now) before after c.in_ok-done.done.items c.in_ok-done.ensures.done)
