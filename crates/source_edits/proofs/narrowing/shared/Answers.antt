use Rattle.std.proofs.Common.{◌∙◌, ap, min, length, sym}
use Rattle.ti_source.specs.Items.{bytes}
use Rattle.source_edits.proofs.Alike.{ends_at, front_apart, front_on, length_bytes}
use Rattle.source_edits.proofs.narrowing.shared.Goals as goal

pub returns-then-old-at-clause-count : goal.returns-then-old-at-clause-count
returns-then-old-at-clause-count c =
    front_apart c.args.old.now c.args.new.now c.loop-at.at c.min.result c.saturating_sub-most.result c.min.ensures c.saturating_sub-most.ensures
    c.loop-at-test.true c.if-old-at.true c.loop-at.invariant

pub loop-at-preserved : goal.loop-at-preserved
loop-at-preserved c =
    front_on c.args.old.now c.args.new.now c.loop-at.at c.min.result c.saturating_sub-most.result c.min.ensures c.saturating_sub-most.ensures
    c.loop-at-test.true c.if-old-at.false c.loop-at.invariant

pub returns-clause-count : goal.returns-clause-count
returns-clause-count c =
    let old = c.args.old.now in
    ends_at (bytes old) c.args.new.now c.loop-at.at c.min.result c.saturating_sub-most.result
    (c.min.ensures ∙ ap (λ n. min n (length c.args.new.now)) (sym (length_bytes old))) c.saturating_sub-most.ensures
    c.loop-at-test.false c.loop-at.auto.at-end c.loop-at.invariant
