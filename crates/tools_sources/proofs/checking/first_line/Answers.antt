use Rattle.std.proofs.Common.{sym, ◌∙◌, arith}
use Rattle.tools_sources.proofs.Ending.{first_after-ended, first_after-open, open_lines-within}
use Rattle.tools_sources.proofs.checking.first_line.Goals as goal

pub returns-then-is_ended-clause-number : goal.returns-then-is_ended-clause-number
returns-then-is_ended-clause-number c =
    first_after-ended c.args.source.now c.preface-preface.result.now c.count_lines-lines.result (c.preface-preface.ensures ∙ c.blocks-2.ensures.preface)
    (sym c.is_ended.ensures ∙ c.if-is_ended.true) c.count_lines-lines.ensures.lines

pub returns-else-is_ended-clause-number : goal.returns-else-is_ended-clause-number
returns-else-is_ended-clause-number c =
    first_after-open c.lines_add.ensures c.args.source.now c.preface-preface.result.now c.count_lines-lines.result
    (c.preface-preface.ensures ∙ c.blocks-2.ensures.preface)
    (sym c.is_ended.ensures ∙ c.if-is_ended.false) c.count_lines-lines.ensures.lines

pub returns-else-is_ended-clause-bound : goal.returns-else-is_ended-clause-bound
returns-else-is_ended-clause-bound c =
    let few = open_lines-within c.lines_add.ensures c.preface-preface.result.now (sym c.is_ended.ensures ∙ c.if-is_ended.false) in
    let lines = c.count_lines-lines.ensures.lines in
    omega arith
