use Rattle.std.proofs.Common.{◌+◌, length, ap, sym, ◌∙◌, arith}
use Rattle.ti_source.specs.inside.Folding.{skips_nothing}
use Rattle.ti_source.proofs.FoldLemmas.{folded-comment, skips-white}
use Rattle.ti_source.proofs.folding.Folded.skip_white_space.Goals as goal

pub loop-byte-init : goal.loop-byte-init
loop-byte-init c = record { skips = rw c.self.view_is skips_nothing; fits = c.self.invariant }

pub loop-byte-preserved-then-is_white_space : goal.loop-byte-preserved-then-is_white_space
loop-byte-preserved-then-is_white_space c =
    let f = c.loop-byte.self-inside in
    let parts = c.in-Some.ensures.cases.0 in
    record {
      skips = skips-white f.joining f.before (f.newlines + 1) c.in-Some.byte.now c.in-Some.rest.now
          (sym c.is_white_space.ensures ∙ c.if-is_white_space.true) (rw parts at c.loop-byte.invariant.skips);
      fits = omega (arith, ap length parts, c.loop-byte.invariant.fits);
    }

pub loop-byte-preserved : goal.loop-byte-preserved
loop-byte-preserved c =
    let f = c.loop-byte.self-inside in
    let parts = c.in-Some.ensures.cases.0 in
    let same = folded-comment f.joining f.before (f.newlines + 1) c.in-Some.byte.now c.in-Some.rest.now
    (sym c.begins_comment.ensures ∙ c.if-begins_comment.true) in
    let skips = rw parts at c.loop-byte.invariant.skips in
    record {
      skips = rw (c.after_comment.ensures.rest, c.after_comment.ensures.newlines) (rw same at skips);
      fits = omega (arith, ap length parts, c.loop-byte.invariant.fits, c.after_comment.ensures.shorter, c.after_comment.ensures.newlines);
    }
