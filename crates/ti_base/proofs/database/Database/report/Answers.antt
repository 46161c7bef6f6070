use Rattle.std.proofs.Common.{◌≡◌, subst}
use Rattle.std.specs.Prelude.{IfOk}
use Rattle.base_meaning.specs.Report.{report_by}
use Rattle.ti_base.specs.RuledTexts.{RuledTexts}
use Rattle.ti_base.proofs.LeftmostTexts.{is_leftmost}
use Rattle.ti_base.proofs.database.Database.report.Goals as goal

pub returns : goal.returns
returns c =
    let source = is_leftmost c.self.inside.ruled c.args.self.now c.self.invariant c.self.view_is in
    subst (λ (s : RuledTexts). IfOk c.report.result (λ text. text.items ≡ report_by s.rule s.texts c.args.first_line)) source c.report.ensures
