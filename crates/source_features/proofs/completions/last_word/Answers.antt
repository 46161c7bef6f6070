use Rattle.std.proofs.Common.{◌+◌, Bool, cond, ap, sym, ◌∙◌, arith}
use Rattle.source_features.proofs.Completing.{word_taken}
use Rattle.source_features.proofs.completions.last_word.Goals as goal
use Rattle.source_features.proofs.completions.last_word.Goals.{then-is_break, else-is_break}

pub loop-at-preserved : goal.loop-at-preserved
loop-at-preserved c =
    let text = c.args.text.now in
    let at = c.loop-at.at in
    let step = word_taken text at c.loop-at.start c.is_break.result (omega arith) c.loop-at.invariant c.is_break.ensures in
    elim c.if-is_break.branch [
      | then-is_break w ↦ w.start-is ∙ ap (λ (b : Bool). cond b (at + 1) c.loop-at.start) (sym w.if-is_break.true) ∙ step
      | else-is_break w ↦ w.start-is ∙ ap (λ (b : Bool). cond b (at + 1) c.loop-at.start) (sym w.if-is_break.false) ∙ step
    ]
