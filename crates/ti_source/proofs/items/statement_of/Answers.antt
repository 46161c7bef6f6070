use Rattle.std.proofs.Common.{Some, ap, sym, ◌∙◌}
use Rattle.ti_source.specs.Stating.{plain_statement}
use Rattle.ti_source.proofs.TextLemmas.{statement-statement_by_mark, statement-plain}
use Rattle.ti_source.proofs.items.statement_of.Goals as goal

pub returns-in-Some : goal.returns-in-Some
returns-in-Some c =
    ap Some c.statement_with_value.ensures
    ∙ sym (statement-statement_by_mark c.args.text.now c.in-Some.end _ _ c.in_ok-first.ensures.cases.0 c.if-first-eq46.false c.in-Some.ensures.0
    c.in-Some.ensures.1)

pub returns-in-None : goal.returns-in-None
returns-in-None c =
    ap Some (c.plain_statement.ensures ∙ ap plain_statement c.trim_end.ensures)
    ∙ sym (statement-plain c.args.text.now _ _ c.in_ok-first.ensures.cases.0 c.if-first-eq46.false c.in-None.ensures)
