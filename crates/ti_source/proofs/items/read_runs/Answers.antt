use Rattle.std.proofs.Common.{sym, ◌∙◌}
use Rattle.ti_source.proofs.ItemLemmas.{so_far-more, takes-cut, takes-last}
use Rattle.ti_source.proofs.items.read_runs.Goals as goal

pub loop-byte-init : goal.loop-byte-init
loop-byte-init c = λ start reads. rw c.clear.ensures.items reads

pub returns-then-cuts : goal.returns-then-cuts
returns-then-cuts c = λ start reads.
    let so_far = rw c.in-Some.ensures.steps at (c.loop-byte.invariant start reads) in
    takes-cut _ _ _ _ _ _ so_far (sym c.cuts.ensures ∙ c.if-cuts.true)

pub loop-byte-preserved : goal.loop-byte-preserved
loop-byte-preserved c = λ start reads.
    let so_far = rw c.in-Some.ensures.steps at (c.loop-byte.invariant start reads) in
    c.in_ok-escape.ensures.reads _ _ (rw (c.next_escape.ensures, c.in_ok-line.ensures) (so_far-more _ _ _ _ _ _ so_far (sym c.cuts.ensures ∙ c.if-cuts.false)))

pub returns : goal.returns
returns c = λ start reads.
    let so_far = rw c.in_default.ensures.steps.0 at (c.loop-byte.invariant start reads) in
    rw c.in_default.ensures.steps.1 (takes-last _ _ _ _ so_far)
