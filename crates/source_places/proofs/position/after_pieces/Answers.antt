use Rattle.std.proofs.Common.{◌≡◌, ◌-◌, ℕ, List, take, ap, ap₂, ◌∙◌, arith}
use Rattle.ti_text.specs.Lines.{line_count}
use Rattle.source_places.specs.Position.{line_start}
use Rattle.source_places.proofs.LineStarts.{start_after}
use Rattle.source_places.proofs.position.after_pieces.Goals as goal

pub loop-rest-preserved : goal.loop-rest-preserved
loop-rest-preserved c =
    let rest = c.loop-rest.rest.now in
    let left = c.loop-rest.left in
    let count : c.count_lines-lines.result ≡ line_count (take 4096 rest) = c.count_lines-lines.ensures.lines ∙ ap line_count c.split_at.ensures.front in
    let step = start_after 4096 rest left (omega (arith, c.split_at.ensures.back_len)) (omega (arith, count, c.if-left-lines.false)) in
    let same = ap₂ (λ (t : List ℕ) (k : ℕ). line_start t (left - k)) c.split_at.ensures.back count in
    record {
      within = omega (arith, c.split_at.ensures.back_len, c.loop-rest.invariant.within);
      start = omega (arith, c.split_at.ensures.back_len, c.loop-rest.invariant.within, c.loop-rest.invariant.start, step, same);
    }
