use Rattle.std.proofs.Common.{map, refl}
use Rattle.std.specs.String.{string_bytes}
use Rattle.everyday_names.specs.Fields.{fields_seen}
use Rattle.everyday_tic.specs.Outcomes.{asked_of}
use Rattle.everyday_tic.proofs.Becoming.{none_comes, some_comes}
use Rattle.everyday_tic.proofs.compiling.compile_blocks.Goals as goal

pub refused_at-requires : goal.refused_at-requires
refused_at-requires g c = record {
  within = c.first_termcap.ensures.within c.in-Some.at c.in-Some.is;
  first = c.requires.first;
}

pub returns-in-Some-clause-comes : goal.returns-in-Some-clause-comes
returns-in-Some-clause-comes g c =
    let first = rw c.in-Some.is at c.first_termcap.ensures.first in
    some_comes c.args.database.rule (asked_of c.args.options.now) (g.T.Tree.files c.args.tree.now) (map string_bytes c.args.directories.now) c.args.file.now c.args.first_line
    c.in-Some.at (fields_seen c.args.fields.now) c.args.database.texts (g.T.Tree.failures c.args.tree.now) (g.T.Tree.failures c.args.tree.now) c.refused_at.result first refl c.refused_at.ensures

pub returns-in-None-clause-comes : goal.returns-in-None-clause-comes
returns-in-None-clause-comes g c =
    let none = rw c.in-None.is at c.first_termcap.ensures.first in
    none_comes c.args.database.rule (asked_of c.args.options.now) (g.T.Tree.files c.args.tree.now) (map string_bytes c.args.directories.now) c.args.file.now c.args.first_line
    (fields_seen c.args.fields.now) c.args.database.texts (g.T.Tree.failures c.args.tree.now) (g.T.Tree.failures c.compile_terminfo.new.tree) c.compile_terminfo.result none c.compile_terminfo.ensures.comes
