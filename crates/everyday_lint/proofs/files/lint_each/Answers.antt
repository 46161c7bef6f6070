-- each step is that of one file
use Rattle.std.proofs.Common.{◌∙◌, ◌+◌, ◌++◌, ◌∷◌, [], List, ℕ, drop, map, string_bytes, subst, suc, sym, take}
use Rattle.everyday_lint.specs.Fates.{LintsFile, LintsFiles, Stays}
use Rattle.everyday_fmt.specs.Fates.{held}
use Rattle.everyday_lint.specs.declared.files.Done.{Done}
use Rattle.everyday_lint.proofs.Turns.{LintsFiles-next, StopsAmong-at, StopsAmong-between, StopsAmong-none, on_err, parts_around, parts_at}
use Rattle.everyday_lint.proofs.files.lint_each.Goals as goal

pub returns-in_err-done-clause-refused : goal.returns-in_err-done-clause-refused
returns-in_err-done-clause-refused g c =
    let before = held g.T.Tree.files g.T.Tree.failures g.T.ReasonedTree.cause c.args.tree.now in
    on_err c.from_residual.result _ (StopsAmong-none c.args.options (map string_bytes c.args.paths.now) before)

pub returns-in_err-copy-clause-refused : goal.returns-in_err-copy-clause-refused
returns-in_err-copy-clause-refused g c =
    let before = held g.T.Tree.files g.T.Tree.failures g.T.ReasonedTree.cause c.args.tree.now in
    let mid = held g.T.Tree.files g.T.Tree.failures g.T.ReasonedTree.cause c.loop-path.tree in
    let paths = c.args.paths.now in
    let i = c.loop-path.path-index in
    on_err c.from_residual-in_err-copy.result _
    (StopsAmong-between c.args.options (map string_bytes paths) (map string_bytes (take i paths)) (map string_bytes (drop i paths)) before mid
    c.loop-path.done.items (parts_at string_bytes paths i) c.loop-path.invariant)

pub returns-in_err-fate-clause-refused : goal.returns-in_err-fate-clause-refused
returns-in_err-fate-clause-refused g c =
    let before = held g.T.Tree.files g.T.Tree.failures g.T.ReasonedTree.cause c.args.tree.now in
    let mid = held g.T.Tree.files g.T.Tree.failures g.T.ReasonedTree.cause c.loop-path.tree in
    let paths = c.args.paths.now in
    let i = c.loop-path.path-index in
    let new = g.T.Tree.files c.lint_file.new.tree in
    let stays : Stays c.args.options (string_bytes c.path-item.result) mid.files new =
    subst (λ (path : List ℕ). Stays c.args.options path mid.files new) c.as_str-in-loop-path.ensures.value c.in_err-fate.ensures.refused in
    on_err c.from_residual-in_err-fate.result _
    (StopsAmong-at c.args.options (map string_bytes paths) (map string_bytes (take i paths)) (string_bytes c.path-item.result)
    (map string_bytes (drop (suc i) paths)) before mid new c.loop-path.done.items
    (parts_around string_bytes paths i c.path-item.result c.loop-path-test.true c.path-item.is) c.loop-path.invariant stays)

pub returns-in_err-push-clause-refused : goal.returns-in_err-push-clause-refused
returns-in_err-push-clause-refused g c =
    let before = held g.T.Tree.files g.T.Tree.failures g.T.ReasonedTree.cause c.args.tree.now in
    let mid = held g.T.Tree.files g.T.Tree.failures g.T.ReasonedTree.cause c.loop-path.tree in
    let after = held g.T.Tree.files g.T.Tree.failures g.T.ReasonedTree.cause c.lint_file.new.tree in
    let paths = c.args.paths.now in
    let i = c.loop-path.path-index in
    let last : Done = record { path = c.in_ok-copy.copy; fate = c.in_ok-fate.fate } in
    let lints : LintsFile c.args.options (string_bytes c.path-item.result) mid after c.in_ok-fate.fate =
    subst (λ (path : List ℕ). LintsFile c.args.options path mid after c.in_ok-fate.fate) c.as_str-in-loop-path.ensures.value c.in_ok-fate.ensures.done in
    on_err c.from_residual-in_err-push.result _
    (StopsAmong-between c.args.options (map string_bytes paths) (map string_bytes (take (i + 1) paths)) (map string_bytes (drop (i + 1) paths)) before after
    (c.loop-path.done.items ++ last ∷ []) (parts_at string_bytes paths (i + 1))
    (LintsFiles-next string_bytes paths i c.args.options c.path-item.result before mid after c.loop-path.done.items last c.loop-path-test.true c.path-item.is
    c.loop-path.invariant (c.in_ok-copy.ensures.ok ∙ c.as_str.ensures.value) lints))

pub loop-path-preserved : goal.loop-path-preserved
loop-path-preserved g c =
    let before = held g.T.Tree.files g.T.Tree.failures g.T.ReasonedTree.cause c.args.tree.now in
    let mid = held g.T.Tree.files g.T.Tree.failures g.T.ReasonedTree.cause c.loop-path.tree in
    let after = held g.T.Tree.files g.T.Tree.failures g.T.ReasonedTree.cause c.lint_file.new.tree in
    let paths = c.args.paths.now in
    let i = c.loop-path.path-index in
    let last : Done = record { path = c.in_ok-copy.copy; fate = c.in_ok-fate.fate } in
    let lints : LintsFile c.args.options (string_bytes c.path-item.result) mid after c.in_ok-fate.fate =
    subst (λ (path : List ℕ). LintsFile c.args.options path mid after c.in_ok-fate.fate) c.as_str-in-loop-path.ensures.value c.in_ok-fate.ensures.done in
    subst (λ (done : List Done). LintsFiles c.args.options (map string_bytes (take (i + 1) paths)) before after done) (sym c.in_ok-push.ensures.items)
    (LintsFiles-next string_bytes paths i c.args.options c.path-item.result before mid after c.loop-path.done.items last c.loop-path-test.true c.path-item.is
    c.loop-path.invariant (c.in_ok-copy.ensures.ok ∙ c.as_str.ensures.value) lints)
