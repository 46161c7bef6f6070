use Rattle.std.proofs.Common.{map}
use Rattle.std.specs.String.{string_bytes}
use Rattle.everyday_tic.specs.Outcomes.{asked_of}
use Rattle.everyday_tic.proofs.Becoming.{plain_comes}
use Rattle.everyday_tic.proofs.compiling.compile_plain.Goals as goal

pub returns-in-Ok-clause-comes : goal.returns-in-Ok-clause-comes
returns-in-Ok-clause-comes g c =
    plain_comes (asked_of c.args.options.now) (g.T.Tree.files c.args.tree.now) (map string_bytes c.args.directories.now) c.args.file.now c.in-Ok.database.rule
    c.args.source.now (g.T.Tree.failures c.args.tree.now) (g.T.Tree.failures c.compile_fitted.new.tree) c.first_line-first.result c.in-Ok.database.texts c.compile_fitted.result
    c.in-Ok.ensures.ruled c.in-Ok.ensures.held c.in-Ok.ensures.taken c.first_line-first.ensures.number c.compile_fitted.ensures.comes
