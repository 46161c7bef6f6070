-- by what is settled in the current directory
use Rattle.std.proofs.Common.{[], refl}
use Rattle.std.proofs.lemmas.Result.{IfOk-weaker}
use Rattle.source_settings.specs.Finding.{IsSettled}
use Rattle.source_settings.specs.Settings.{settings_seen}
use Rattle.source_settings.specs.declared.finding.Settled.TheVariants.{By, Unread}
use Rattle.everyday_fmt.specs.Fates.{held}
use Rattle.everyday_lint.proofs.Unread.{unread_input}
use Rattle.everyday_lint.proofs.tool.check_input.Goals as goal

pub returns-in_ok-linted-in-By : goal.returns-in_ok-linted-in-By
returns-in_ok-linted-in-By g c =
    let before = held g.T.Tree.files g.T.Tree.failures g.T.ReasonedTree.cause c.args.tree.now in
    let after = held g.T.Tree.files g.T.Tree.failures g.T.ReasonedTree.cause c.settle.new.tree in
    let settled : IsSettled before.files [] before.failures after.failures (By c.in-By.settings) = rw c.in-By.is at c.in_ok-settings.ensures.settled in (
      settings_seen c.in-By.settings,
      (c.in-By.settings, settled.0, refl),
      rw c.new-fixes.ensures.items at c.in_ok-linted-in-By.ensures.linted,
      c.in_ok-settings.ensures.kept,
    )

pub returns-in-Unread : goal.returns-in-Unread
returns-in-Unread g c =
    let before = held g.T.Tree.files g.T.Tree.failures g.T.ReasonedTree.cause c.args.tree.now in
    let after = held g.T.Tree.files g.T.Tree.failures g.T.ReasonedTree.cause c.settle.new.tree in
    let settled : IsSettled before.files [] before.failures after.failures (Unread c.in-Unread.file) =
    rw c.in-Unread.is at c.in_ok-settings.ensures.settled in
    IfOk-weaker c.unread.result _ _
    (λ fate says. unread_input c.args.options c.args.source.now before after c.in-Unread.file fate c.in_ok-settings.ensures.kept settled
    (rw c.as_str.ensures.value at says))
    c.unread.ensures
