use Rattle.std.proofs.Common.{map, take}
use Rattle.std.specs.String.{string_bytes}
use Rattle.everyday_lint.specs.Fates.{LintsFiles}
use Rattle.everyday_fmt.specs.Fates.{held}
use Rattle.everyday_lint.proofs.files.lint_each.Given as goal

-- the files before are done
abbrev pub invariant-loop-path : goal.invariant-loop-path
invariant-loop-path g l = LintsFiles l.options (map string_bytes (take l.path-index l.paths))
    (held g.T.Tree.files g.T.Tree.failures g.T.ReasonedTree.cause l.initial.tree)
    (held g.T.Tree.files g.T.Tree.failures g.T.ReasonedTree.cause l.tree) l.done.items
