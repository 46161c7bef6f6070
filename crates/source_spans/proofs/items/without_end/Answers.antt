use Rattle.std.proofs.Common.{ℕ, ap, sym, ◌∙◌, arith}
use Rattle.std.specs.List.{slice_range}
use Rattle.source_spans.proofs.Seeing.{end_next_plain, end_next_white}
use Rattle.source_spans.proofs.items.without_end.Goals as goal
use Rattle.source_spans.proofs.items.without_end.Goals.{then-not-is_white_space, else-not-is_white_space}

pub loop-at-preserved : goal.loop-at-preserved
loop-at-preserved c =
    let text = c.args.text.now in
    let start = c.args.part.start in
    let at = c.loop-at.at in
    elim c.if-not-is_white_space.branch [
      | then-not-is_white_space w ↦ record {
        so = end_next_plain text start at (0, 0) (omega arith) (omega arith) (sym c.is_white_space.ensures ∙ w.if-not-is_white_space.true)
            ∙ ap (λ (n : ℕ). slice_range text start n) (sym w.end-is);
        order = omega arith;
        within = omega arith;
      }
      | else-not-is_white_space w ↦ record {
        so = end_next_white text start at c.loop-at.end (0, 0) (omega arith) (omega arith) (sym c.is_white_space.ensures ∙ w.if-not-is_white_space.false)
            c.loop-at.invariant.so
            ∙ ap (λ (n : ℕ). slice_range text start n) (sym w.end-is);
        order = omega arith;
        within = omega arith;
      }
    ]
