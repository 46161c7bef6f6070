-- by what is settled for the source
use Rattle.std.proofs.Common.{refl}
use Rattle.std.proofs.lemmas.Result.{IfOk-weaker}
use Rattle.source_settings.specs.Finding.{IsSettled}
use Rattle.source_settings.specs.Settings.{settings_seen}
use Rattle.source_settings.specs.declared.finding.Settled.TheVariants.{By, Unread}
use Rattle.everyday_fmt.specs.Fates.{held}
use Rattle.everyday_lint.proofs.FixedFiles.{found_settled}
use Rattle.everyday_lint.proofs.Unread.{unread_source}
use Rattle.everyday_lint.proofs.files.lint_source.Goals as goal

pub returns-in-By-clause-done : goal.returns-in-By-clause-done
returns-in-By-clause-done g c =
    let path = c.args.path.now in
    let source = c.args.source.items in
    let before = held g.T.Tree.files g.T.Tree.failures g.T.ReasonedTree.cause c.args.tree.now in
    let mid = held g.T.Tree.files g.T.Tree.failures g.T.ReasonedTree.cause c.settle.new.tree in
    let after = held g.T.Tree.files g.T.Tree.failures g.T.ReasonedTree.cause c.lint_settled.new.tree in
    let settled : IsSettled before.files path before.failures mid.failures (By c.in-By.settings) = rw c.in-By.is at c.in_ok-settings.ensures.settled in
    IfOk-weaker c.lint_settled.result _ _
    (λ fate finds. found_settled c.args.options path source before mid after c.in_ok-settings.ensures.kept settled.1 (settings_seen c.in-By.settings) fate
    (c.in-By.settings, settled.0, refl) finds)
    c.lint_settled.ensures.done

pub returns-in-Unread-clause-done : goal.returns-in-Unread-clause-done
returns-in-Unread-clause-done g c =
    let path = c.args.path.now in
    let before = held g.T.Tree.files g.T.Tree.failures g.T.ReasonedTree.cause c.args.tree.now in
    let after = held g.T.Tree.files g.T.Tree.failures g.T.ReasonedTree.cause c.settle.new.tree in
    let settled : IsSettled before.files path before.failures after.failures (Unread c.in-Unread.file) =
    rw c.in-Unread.is at c.in_ok-settings.ensures.settled in
    IfOk-weaker c.unread.result _ _
    (λ fate says. unread_source c.args.options path c.args.source.items before after c.in-Unread.file fate c.in_ok-settings.ensures.kept settled
    (rw c.as_str.ensures.value at says))
    c.unread.ensures
