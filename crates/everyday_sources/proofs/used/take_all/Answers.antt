use Rattle.std.proofs.Common.{◌++◌, ◌∙◌, [], ap, map, sym, subst, append_assoc, append-nil, arith}
use Rattle.std.specs.Rc.{rc_slice_items}
use Rattle.std.specs.String.{string_bytes}
use Rattle.everyday_sources.specs.Used.{TakesNames, problem_seen}
use Rattle.everyday_sources.specs.inside.Listed.{problems_of}
use Rattle.everyday_sources.proofs.Taking.{none_left, one_taken}
use Rattle.everyday_sources.proofs.used.take_all.Goals as goal

pub loop-name-preserved : goal.loop-name-preserved
loop-name-preserved g c =
    let files = g.T.Tree.files c.args.tree.now in
    let dirs = map string_bytes c.args.directories.now in
    let names = c.args.names.now in
    let first = problems_of c.in_ok-problem.problem in
    let step = rw (c.loop-name.invariant.kept, c.as_slice.ensures.value) at c.in_ok-problem.ensures.taken in
    record {
      rest = λ after last others later.
          subst (TakesNames c.args.user_defined files dirs c.args.database.now.texts (map rc_slice_items names) (g.T.Tree.failures c.args.tree.now) after last)
          (sym (ap (λ ps. ps ++ others) c.in_ok-push_problem.ensures ∙ append_assoc (map problem_seen c.loop-name.problems.items) first others))
          (c.loop-name.invariant.rest after last (first ++ others)
          (one_taken rc_slice_items c.args.user_defined files dirs names c.loop-name.name-index c.name-item.result c.loop-name.database.texts _ last _ _ after
          first others
          (omega arith) c.name-item.is step later));
      kept = c.take_one.ensures.kept ∙ c.loop-name.invariant.kept;
      ruled = c.take_one.ensures.rule ∙ c.loop-name.invariant.ruled;
    }

pub returns : goal.returns
returns g c = record {
  taken =
      subst (TakesNames c.args.user_defined (g.T.Tree.files c.args.tree.now) (map string_bytes c.args.directories.now) c.args.database.now.texts
      (map rc_slice_items c.args.names.now) (g.T.Tree.failures c.args.tree.now) (g.T.Tree.failures c.loop-name.tree) c.loop-name.database.texts)
      (append-nil (map problem_seen c.loop-name.problems.items))
      (c.loop-name.invariant.rest (g.T.Tree.failures c.loop-name.tree) c.loop-name.database.texts []
      (none_left rc_slice_items c.args.user_defined (g.T.Tree.files c.args.tree.now) (map string_bytes c.args.directories.now) c.args.names.now
      c.loop-name.name-index c.loop-name.database.texts (g.T.Tree.failures c.loop-name.tree) (omega arith)));
  kept = c.loop-name.invariant.kept;
  rule = c.loop-name.invariant.ruled;
}
