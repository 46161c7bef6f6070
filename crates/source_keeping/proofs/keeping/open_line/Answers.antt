use Rattle.std.proofs.Common.{◌+◌, ◌∙◌, sym}
use Rattle.std.proofs.lemmas.List.{take_rest}
use Rattle.source_keeping.proofs.LinesKept.{open_found, open_missing}
use Rattle.source_keeping.proofs.keeping.open_line.Goals as goal

pub returns-in-Some : goal.returns-in-Some
returns-in-Some c =
    let text = c.args.text.now in
    take_rest text (c.in-Some.at + 1) ∙ sym (open_found text c.in-Some.at c.in-Some.ensures)

pub returns-in-None : goal.returns-in-None
returns-in-None c = sym (open_missing c.args.text.now c.in-None.ensures)
