use Rattle.std.proofs.Common.{◌+◌}
use Rattle.std.proofs.lemmas.Bool.{ne_eqb}
use Rattle.ti_source.proofs.FoldLemmas.{behind_comma, takes_item}
use Rattle.ti_source.proofs.folding.Folded.take_item.Goals as goal

pub returns-clause-taken : goal.returns-clause-taken
returns-clause-taken c =
    let f = c.self.inside in
    let text = f.rest.now in
    let size = c.in_ok-size.size in
    let item = takes_item f.joining f.before (f.newlines + 1) text size c.if-self.false (ne_eqb f.before 10 c.if-self-eq10.false) c.in_ok-size.ensures in
    rw (← c.self.view_is, c.split_at.ensures.front, c.split_at.ensures.back, behind_comma text size) item
