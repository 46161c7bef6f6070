use Rattle.std.proofs.Common.{◌≡◌, ◌∙◌, ◌+◌, ◌-◌, ◌≤◌, suc, ap, arith}
use Rattle.everyday_report.specs.Columns.{column_at}
use Rattle.everyday_report.proofs.LineStarting.{column_at_most, column_by_start}
use Rattle.everyday_report.proofs.columns.Columns.column_at.Goals as goal

pub returns-clause-column : goal.returns-clause-column
returns-clause-column c =
    let text = c.self.inside.text.now in
    let to = c.min-to.result in
    let start = c.line_start-self-inside.result in
    let before : start ≤ to = c.line_start-self-inside.ensures.before in
    let step : to - start + 1 ≡ suc (to - start) = omega arith in
    step ∙ column_by_start text to start c.line_start-self-inside.ensures ∙ column_at_most text c.args.offset to c.min-to.ensures
    ∙ ap (λ t. column_at t c.args.offset) c.self.view_is
