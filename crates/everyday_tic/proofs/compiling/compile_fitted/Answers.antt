use Rattle.std.proofs.Common.{◌∙◌, ap, map}
use Rattle.std.specs.String.{string_bytes}
use Rattle.everyday_names.specs.Fields.{fields_seen, fitted, long_field}
use Rattle.everyday_tic.specs.Outcomes.{asked_of}
use Rattle.everyday_tic.proofs.Becoming.{fitted_comes}
use Rattle.everyday_tic.proofs.compiling.compile_fitted.Goals as goal

pub returns-clause-comes : goal.returns-clause-comes
returns-clause-comes g c =
    let old = c.args.database in
    let new = c.in_ok-database.database in
    fitted_comes new.rule old.rule (asked_of c.args.options.now) (g.T.Tree.files c.args.tree.now) (map string_bytes c.args.directories.now) c.args.file.now
    c.args.first_line (g.T.Tree.failures c.args.tree.now) (g.T.Tree.failures c.compile_blocks.new.tree) (map long_field old.texts)
    (fields_seen c.deref-2.result.now) (map fitted old.texts) new.texts c.compile_blocks.result c.in_ok-database.ensures.ruled
    (ap fields_seen c.deref-2.ensures.value ∙ c.in_ok-fields.ensures) c.in_ok-database.ensures.held c.compile_blocks.ensures.comes
