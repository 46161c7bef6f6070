use Rattle.std.proofs.Common.{◌∙◌, map}
use Rattle.std.specs.String.{string_bytes}
use Rattle.everyday_tic.specs.Outcomes.{asked_of}
use Rattle.everyday_tic.proofs.Becoming.{read_plain}
use Rattle.everyday_tic.proofs.compiling.tic.Goals as goal

pub returns-in-Some-clause-comes : goal.returns-in-Some-clause-comes
returns-in-Some-clause-comes g c =
    let is = rw c.in-Some.is at c.in_ok-plain.ensures in
    read_plain (asked_of c.args.options.now) (g.T.Tree.files c.args.tree.now) (map string_bytes c.args.directories.now) c.args.file.now c.args.source.now
    c.as_slice.result.now (g.T.Tree.failures c.args.tree.now) (g.T.Tree.failures c.compile_plain.new.tree) c.compile_plain.result
    (c.as_slice.ensures.value ∙ is) c.compile_plain.ensures.comes

pub returns-in-None-clause-comes : goal.returns-in-None-clause-comes
returns-in-None-clause-comes g c =
    let is = rw c.in-None.is at c.in_ok-plain.ensures in
    read_plain (asked_of c.args.options.now) (g.T.Tree.files c.args.tree.now) (map string_bytes c.args.directories.now) c.args.file.now c.args.source.now
    c.args.source.now (g.T.Tree.failures c.args.tree.now) (g.T.Tree.failures c.compile_plain-in-None.new.tree) c.compile_plain-in-None.result
    is c.compile_plain-in-None.ensures.comes
