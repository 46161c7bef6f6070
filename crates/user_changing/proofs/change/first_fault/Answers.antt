use Rattle.std.proofs.Common.{arith}
use Rattle.user_changing.proofs.Saying.{can_all, can_more}
use Rattle.user_changing.proofs.change.first_fault.Goals as goal

pub loop-at-preserved : goal.loop-at-preserved
loop-at-preserved c =
    let l = c.loop-at-test.true in can_more c.args.changes.now c.loop-at.at _ c.loop-at.invariant (omega (arith, l)) c.in_default.ensures.none

pub returns-clause-none : goal.returns-clause-none
returns-clause-none c = let l = c.loop-at-test.false in can_all c.args.changes.now c.loop-at.at (omega (arith, l)) c.loop-at.invariant
