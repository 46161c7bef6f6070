use Rattle.std.proofs.Common.{◌∙◌, ap₂, min, reverse, sym}
use Rattle.std.proofs.lemmas.List.{length-reverse}
use Rattle.ti_source.specs.Items.{bytes}
use Rattle.source_edits.proofs.Alike.{back_apart, back_on, ends_at, length_bytes}
use Rattle.source_edits.proofs.narrowing.back_size.Goals as goal

pub returns-then-e-count-clause-count : goal.returns-then-e-count-clause-count
returns-then-e-count-clause-count c =
    back_apart c.args.e.now.old.now c.args.e.now.new.now c.loop-count.count c.min.result c.saturating_sub-most.result c.min.ensures
    c.saturating_sub-most.ensures c.loop-count-test.true c.if-e-count.true c.loop-count.invariant

pub loop-count-preserved : goal.loop-count-preserved
loop-count-preserved c =
    back_on c.args.e.now.old.now c.args.e.now.new.now c.loop-count.count c.min.result c.saturating_sub-most.result c.min.ensures
    c.saturating_sub-most.ensures c.loop-count-test.true c.if-e-count.false c.loop-count.invariant

pub returns-clause-count : goal.returns-clause-count
returns-clause-count c =
    let old = c.args.e.now.old.now in
    let new = c.args.e.now.new.now in
    ends_at (reverse (bytes old)) (reverse new) c.loop-count.count c.min.result c.saturating_sub-most.result
    (c.min.ensures ∙ sym (ap₂ (λ m n. min m n) (length-reverse (bytes old) ∙ length_bytes old) (length-reverse new))) c.saturating_sub-most.ensures
    c.loop-count-test.false c.loop-count.auto.count-end c.loop-count.invariant
