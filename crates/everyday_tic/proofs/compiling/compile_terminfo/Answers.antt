use Rattle.std.proofs.Common.{map, subst, sym}
use Rattle.std.specs.Prelude.{IfOk}
use Rattle.std.specs.String.{string_bytes}
use Rattle.ti_source.specs.declared.parsing.Rule.{Rule}
use Rattle.everyday_sources.specs.Used.{problem_seen}
use Rattle.everyday_names.specs.Fields.{fields_seen}
use Rattle.everyday_tic.specs.Outcomes.{ComesOf, asked_of, made_of}
use Rattle.everyday_tic.specs.inside.Found.{AreFoundFaults}
use Rattle.everyday_tic.proofs.Becoming.{comes_of_all, found_before, within_all}
use Rattle.everyday_tic.proofs.compiling.compile_terminfo.Goals as goal

pub compile_all-requires : goal.compile_all-requires
compile_all-requires g c =
    let old = c.args.database in
    let new = c.take_used.new.database in
    let first = c.sources_come_first.ensures old.rule c.args.options.now.user_defined (g.T.Tree.files c.args.tree.now) (map string_bytes c.args.directories.now)
    old.texts (g.T.Tree.failures c.args.tree.now) (g.T.Tree.failures c.take_used.new.tree) new.texts
    (map problem_seen c.in_ok-used.used.problems.items) c.in_ok-used.ensures.taken in
    record {
      within = within_all old.texts new.texts first.0 c.len-count.result first.1 c.len-count.ensures;
      found = subst (λ (r : Rule). AreFoundFaults r new.texts c.in_ok-used.used.faults) (sym c.take_used.ensures.rule)
          (found_before old.rule old.texts new.texts c.in_ok-used.used.faults c.in_ok-used.ensures.faults);
      first = c.requires.first;
    }

pub returns-clause-comes : goal.returns-clause-comes
returns-clause-comes g c =
    let old = c.args.database in
    let new = c.take_used.new.database in
    let asked = asked_of c.args.options.now in
    let problems = map problem_seen c.in_ok-used.used.problems.items in
    comes_of_all old.rule asked (g.T.Tree.files c.args.tree.now) (map string_bytes c.args.directories.now) c.args.file.now c.args.first_line
    c.len-count.result (fields_seen c.args.fields.now) old.texts new.texts (g.T.Tree.failures c.args.tree.now) (g.T.Tree.failures c.take_used.new.tree)
    c.in_ok-used.used.problems.items c.compile_all.result c.len-count.ensures c.in_ok-used.ensures.taken
    (subst (λ (r : Rule). IfOk c.compile_all.result
    (λ outcome. ComesOf r asked c.args.file.now c.args.first_line (fields_seen c.args.fields.now) new.texts c.len-count.result problems (made_of outcome))) c.take_used.ensures.rule
    c.compile_all.ensures)
