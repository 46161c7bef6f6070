-- fixes are made only if that is asked for
use Rattle.std.proofs.Common.{◌≢◌, ◌∙◌, [], map, sym}
use Rattle.std.proofs.lemmas.Result.{IfOk-weaker}
use Rattle.source_plain.specs.Reading.{without_mark}
use Rattle.everyday_fmt.specs.Fates.{held}
use Rattle.source_settings.specs.Settings.{settings_seen}
use Rattle.everyday_lint.specs.Checking.{made_in}
use Rattle.everyday_lint.specs.Offers.{made_seen}
use Rattle.everyday_lint.proofs.FixedFiles.{finds_some, may_change, on_err_weaker, some_made}
use Rattle.everyday_lint.proofs.files.lint_made.Goals as goal

pub returns-clause-done : goal.returns-clause-done
returns-clause-done g c =
    let before = held g.T.Tree.files g.T.Tree.failures g.T.ReasonedTree.cause c.args.tree.now in
    let after = held g.T.Tree.files g.T.Tree.failures g.T.ReasonedTree.cause c.fix_file.new.tree in
    let offers = c.args.offers.now in
    let some : map made_seen offers ≢ [] = some_made made_seen offers (sym c.is_empty.ensures ∙ c.if-is_empty.false) in
    IfOk-weaker c.fix_file.result _ _
    (λ fate fixes. finds_some c.args.options (settings_seen c.args.settings.now) c.args.path.now c.args.source.now (map made_seen offers) before after fate c.requires.offers some fixes)
    c.fix_file.ensures.done

pub returns-clause-refused : goal.returns-clause-refused
returns-clause-refused g c =
    let options = c.args.options in
    let source = c.args.source.now in
    let offers = c.args.offers.now in
    let some : map made_seen offers ≢ [] = some_made made_seen offers (sym c.is_empty.ensures ∙ c.if-is_empty.false) in
    let made_some : made_in options source ≢ [] = λ none. some (c.requires.offers ∙ none) in
    on_err_weaker c.fix_file.result _ _
    (may_change options.fix (without_mark source) _ c.args.path.now (g.T.Tree.files c.args.tree.now) (g.T.Tree.files c.fix_file.new.tree) made_some)
    c.fix_file.ensures.refused
