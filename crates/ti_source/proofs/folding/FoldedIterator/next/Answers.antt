use Rattle.std.proofs.Common.{◌+◌, length, ap, sym, ◌∙◌, arith}
use Rattle.ti_source.proofs.FoldLemmas.{folded-comment}
use Rattle.ti_source.proofs.folding.FoldedIterator.next.Goals as goal

pub loop-byte-preserved-then-begins_comment : goal.loop-byte-preserved-then-begins_comment
loop-byte-preserved-then-begins_comment c =
    let f = c.loop-byte.self-inside in
    let parts = c.in-Some.ensures.cases.0 in
    let same = folded-comment f.joining f.before (f.newlines + 1) c.in-Some.byte.now c.in-Some.rest.now
    (sym c.begins_comment.ensures ∙ c.if-begins_comment.true) in
    record {
      same = rw (c.after_comment.ensures.rest, c.after_comment.ensures.newlines) (sym same ∙ (rw parts at c.loop-byte.invariant.same));
      fits = omega (arith, ap length parts, c.loop-byte.invariant.fits, c.after_comment.ensures.shorter, c.after_comment.ensures.newlines);
    }
