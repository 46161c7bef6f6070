use Rattle.std.proofs.Common.{arith, rules, ◌∙◌}
use Rattle.ti_printing.proofs.FirstDelays.{cut_at_first, no_delay, parts_from-next}
use Rattle.ti_printing.proofs.delays.first_delay.Goals as goal

pub loop-at-preserved : goal.loop-at-preserved
loop-at-preserved c =
    let next = parts_from-next c.loop-at.at c.args.text.now (omega arith) c.in_default.ensures in
    record { bound = omega arith; found = c.loop-at.invariant.found ∙ next }

pub returns-in-Some : goal.returns-in-Some
returns-in-Some c =
    cut_at_first c.loop-at.at c.args.text.now c.args.lines c.args.line.now c.in-Some.padding c.in-Some.after.now c.time_due-tenths.result
    c.loop-at.invariant.found c.in-Some.ensures c.time_due-tenths.ensures

pub returns : goal.returns
returns c = no_delay c.loop-at.at c.args.text.now (omega arith) c.loop-at.invariant.found
