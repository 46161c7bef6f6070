use Rattle.std.proofs.Common.{arith}
use Rattle.user_changing.proofs.Saying.{can_at}
use Rattle.user_changing.proofs.rows.change_all.Goals as goal

pub change_one-requires-clause-change : goal.change_one-requires-clause-change
change_one-requires-clause-change c =
    let l = c.loop-change-test.true in can_at c.args.changes.now c.loop-change.change-index _ c.requires.changes (omega (arith, l))
