use Rattle.std.proofs.Common.{◌∙◌, arith, sym}
use Rattle.user_extension.specs.UserDefined.{row_of}
use Rattle.user_changing.proofs.Ordered.{gap_here, one_more_before}
use Rattle.user_changing.proofs.order.place_of.Goals as goal

pub returns-then-not-comes_before : goal.returns-then-not-comes_before
returns-then-not-comes_before c =
    let l = c.loop-at-test.true in
    gap_here c.args.rows.now c.loop-at.at (row_of c.args.row.now) _ c.requires.are c.requires.new c.loop-at.invariant (omega (arith, l))
    (sym c.comes_before.ensures ∙ c.if-not-comes_before.true)

pub loop-at-preserved : goal.loop-at-preserved
loop-at-preserved c =
    let l = c.loop-at-test.true in
    one_more_before c.args.rows.now c.loop-at.at (row_of c.args.row.now) _ c.loop-at.invariant (omega (arith, l))
    (sym c.comes_before.ensures ∙ c.if-not-comes_before.false)
