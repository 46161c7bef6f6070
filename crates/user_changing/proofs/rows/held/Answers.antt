use Rattle.std.proofs.Common.{◌-◌, arith}
use Rattle.user_extension.specs.UserDefined.{rows_of}
use Rattle.user_extension.specs.View.{read_rows}
use Rattle.user_changing.proofs.Saying.{held_more}
use Rattle.user_changing.proofs.rows.held.Goals as goal

pub loop-left-preserved : goal.loop-left-preserved
loop-left-preserved c =
    let p = c.loop-left-test.true in
    let w = c.loop-left.invariant.within in
    record {
      within = omega (arith, p, w);
      are = c.give_held.ensures.are;
      said = held_more (read_rows c.args.extension.now) (c.loop-left.left - 1) c.loop-left.left (rows_of c.loop-left.rows.items)
          (rows_of c.give_held.new.rows.items) (omega (arith, p)) (omega (arith, p, w)) c.loop-left.invariant.said c.in_ok-give_held.ensures.said;
    }
