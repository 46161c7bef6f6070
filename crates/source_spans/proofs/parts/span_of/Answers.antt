use Rattle.std.proofs.Common.{sym, arith}
use Rattle.source_spans.proofs.Spanning.{spanned_part}
use Rattle.source_spans.proofs.parts.span_of.Goals as goal

pub returns : goal.returns
returns c =
    let order = c.requires.within.0 in
    sym (spanned_part c.args.text.now c.args.part (0, 0) (omega (arith, order)) c.requires.within.1)
