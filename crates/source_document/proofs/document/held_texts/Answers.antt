use Rattle.std.proofs.Common.{map, ap, ◌∙◌, arith}
use Rattle.std.proofs.lemmas.List.{take_all}
use Rattle.source_document.proofs.TextLists.{one_more_read, text_of}
use Rattle.source_document.proofs.document.held_texts.Goals as goal

pub loop-at-preserved : goal.loop-at-preserved
loop-at-preserved c =
    ap (map text_of) c.in_ok-push.ensures.items
    ∙ one_more_read c.args.database.now c.loop-at.texts.items c.text.result c.loop-at.at (omega arith) c.loop-at.invariant c.text.ensures

pub returns : goal.returns
returns c = c.loop-at.invariant ∙ take_all c.loop-at.at c.args.database.now (omega arith)
