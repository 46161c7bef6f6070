use Rattle.std.proofs.Common.{sym, ◌∙◌}
use Rattle.source_kept_lines.proofs.Steps.{first_cut}
use Rattle.source_kept_lines.proofs.parts.first_part.Goals as goal

pub returns-clause-part : goal.returns-clause-part
returns-clause-part c =
    let text = c.without_gap-text.ensures in
    first_cut c.args.reached c.part_end-end.result.1 c.args.text.now c.without_gap-text.result.now c.part_end-end.result.0 text.parts text.after text.begun
    (sym c.is_empty.ensures ∙ c.if-is_empty.false) c.part_end-end.ensures.size c.part_end-end.ensures.reached
