use Rattle.std.proofs.Common.{rules, ◌∙◌, ◌≡◌, ◌++◌, ◌∷◌, [], get_or, sym, arith}
use Rattle.source_plain.proofs.Returns.{one_byte_read, one_left_out, push_kept}
use Rattle.source_plain.proofs.reading.plain_lines.Goals as goal
use Rattle.source_plain.proofs.reading.plain_lines.Goals.{then-not-is_return_at+in_ok-push, else-not-is_return_at}

pub loop-at-preserved : goal.loop-at-preserved
loop-at-preserved c =
    let text = c.args.text.now in
    elim c.if-not-is_return_at.branch [
      | then-not-is_return_at+in_ok-push w ↦
          (let new : c.if-not-is_return_at.plain.items ≡ c.loop-at.plain.items ++ get_or text c.loop-at.at 0 ∷ [] = search rules in
          push_kept text _ _ c.loop-at.at new (one_byte_read text c.loop-at.plain.items c.loop-at.at (omega arith)
          (sym c.is_return_at.ensures ∙ w.if-not-is_return_at.true) c.loop-at.invariant))
      | else-not-is_return_at w ↦
          (let same : c.if-not-is_return_at.plain.items ≡ c.loop-at.plain.items = search rules in
          push_kept text _ _ c.loop-at.at same (one_left_out text c.loop-at.plain.items c.loop-at.at (omega arith)
          (sym c.is_return_at.ensures ∙ w.if-not-is_return_at.false) c.loop-at.invariant))
    ]
