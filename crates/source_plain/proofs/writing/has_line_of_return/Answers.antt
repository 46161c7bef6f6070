use Rattle.std.proofs.Common.{◌∙◌, arith, sym}
use Rattle.source_plain.proofs.Written.{one_passed}
use Rattle.source_plain.proofs.writing.has_line_of_return.Goals as goal

pub loop-at-preserved : goal.loop-at-preserved
loop-at-preserved c =
    one_passed c.args.text.now c.loop-at.at (omega arith) (sym c.is_return_at.ensures ∙ c.if-is_return_at.false) c.loop-at.invariant
