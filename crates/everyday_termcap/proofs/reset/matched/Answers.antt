-- each step passes a byte of both, or a delay of both
use Rattle.std.proofs.Common.{◌≡◌, ◌<◌, false, true, get_or, length, arith, sym, ◌∙◌}
use Rattle.std.proofs.Math.ListN.{length-drop}
use Rattle.everyday_termcap.specs.Reset.{are_delays, begins_with, delay_length}
use Rattle.everyday_termcap.proofs.Matching.{delays, same_bytes}
use Rattle.everyday_termcap.proofs.reset.matched.Goals as goal

pub loop-rest-preserved-then-are_delays : goal.loop-rest-preserved-then-are_delays
loop-rest-preserved-then-are_delays c =
    let some : 0 < length c.loop-rest.rest.now = grind arith in
    let same : begins_with (get_or c.loop-rest.rest.now 0 0) c.loop-rest.left.now ≡ true = cc in
    let both : are_delays c.loop-rest.rest.now c.loop-rest.left.now ≡ true = sym c.if-are_delays.ensures in
    let one : 0 < delay_length c.loop-rest.rest.now = grind arith in
    record {
      same = rw (c.after-rest.ensures, c.after-left.ensures, c.delay_length-sought.ensures.is, c.delay_length-pending.ensures.is)
          (delays c.loop-rest.used c.loop-rest.pending c.loop-rest.rest.now c.loop-rest.left.now some same both one ∙ c.loop-rest.invariant.same);
      within = rw (c.after-left.ensures, length-drop)
          (omega (arith, c.delay_length-pending.ensures.within, c.loop-rest.invariant.within));
    }

pub loop-rest-preserved : goal.loop-rest-preserved
loop-rest-preserved c =
    let some : 0 < length c.loop-rest.rest.now = grind arith in
    let same : begins_with (get_or c.loop-rest.rest.now 0 0) c.loop-rest.left.now ≡ true = cc in
    let none : are_delays c.loop-rest.rest.now c.loop-rest.left.now ≡ false = sym c.if-are_delays.ensures in
    let more : 0 < length c.loop-rest.left.now = grind arith in
    record {
      same = rw (c.after-rest-else-are_delays.ensures, c.after-left-else-are_delays.ensures)
          (same_bytes c.loop-rest.used c.loop-rest.pending c.loop-rest.rest.now c.loop-rest.left.now some same none ∙ c.loop-rest.invariant.same);
      within = rw (c.after-left-else-are_delays.ensures, length-drop) (omega (arith, c.loop-rest.invariant.within));
    }
