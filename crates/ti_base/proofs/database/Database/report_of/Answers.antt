use Rattle.std.proofs.Common.{◌≡◌, subst, ap, sym, ◌∙◌}
use Rattle.std.specs.Prelude.{IfOk}
use Rattle.base_meaning.specs.Faults.{faults}
use Rattle.base_meaning.specs.Readings.{readings_by}
use Rattle.base_meaning.specs.Report.{report_by}
use Rattle.ti_base.specs.RuledTexts.{RuledTexts}
use Rattle.ti_base.proofs.LeftmostTexts.{is_leftmost}
use Rattle.ti_base.proofs.database.Database.report_of.Goals as goal

pub report_of-requires-clause-all : goal.report_of-requires-clause-all
report_of-requires-clause-all c =
    let source = is_leftmost c.self.inside.ruled c.args.self.now c.self.invariant c.self.view_is in
    c.requires.all ∙ ap (λ (s : RuledTexts). faults (readings_by s.rule s.texts)) (sym source)

pub returns : goal.returns
returns c =
    let source = is_leftmost c.self.inside.ruled c.args.self.now c.self.invariant c.self.view_is in
    subst (λ (s : RuledTexts). IfOk c.report_of.result (λ text. text.items ≡ report_by s.rule s.texts c.args.first_line)) source c.report_of.ensures
