use Rattle.std.proofs.Common.{refl, arith}
use Rattle.source_diagnostics.proofs.SameFaults.{all_same, same_more}
use Rattle.source_diagnostics.proofs.kept.are_same.Goals as goal

pub loop-at-preserved : goal.loop-at-preserved
loop-at-preserved c =
    same_more c.args.some.now c.args.others.now c.loop-at.at c.index-some-at.result c.index-others-at.result (omega arith) (omega arith)
    c.index-some-at.is c.index-others-at.is c.loop-at.invariant (c.if-not-is_same.ensures refl)

pub returns : goal.returns
returns c is = all_same c.args.some.now c.args.others.now c.loop-at.at (omega arith) (omega arith) c.loop-at.invariant
