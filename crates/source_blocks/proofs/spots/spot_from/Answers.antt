use Rattle.std.proofs.Common.{ℕ, ◌≡◌, ◌+◌, List, ap, drop, length, sym, ◌∙◌, arith}
use Rattle.ti_text.specs.Lines.{line_count}
use Rattle.source_document.specs.Diagnostics.{text_at}
use Rattle.source_blocks.specs.Spots.{offset_in, spot_from}
use Rattle.source_blocks.proofs.Outlines.{text_is, text_short}
use Rattle.source_blocks.proofs.Spotting.{spot_before, spot_here, spot_later}
use Rattle.source_blocks.proofs.spots.spot_from.Goals as goal

pub returns-then-place-start-clause-spot : goal.returns-then-place-start-clause-spot
returns-then-place-start-clause-spot c =
    spot_before c.args.database.now c.loop-at.at c.loop-at.start c.args.place (spot_from 0 c.args.first c.args.place c.args.database.now)
    (omega arith) c.if-place-start.true c.loop-at.invariant.so

pub overflow_add-next : goal.overflow_add-next
overflow_add-next c =
    let blocks = c.args.database.now in
    let is = text_is blocks c.loop-at.at c.text-block.result.now c.text-block.ensures in
    let short = text_short c.args.first blocks c.loop-at.at c.requires (omega arith) in
    omega (arith, short, c.count_lines.ensures.within, ap length is, c.requires.few)

pub returns-then-place-next-clause-spot : goal.returns-then-place-next-clause-spot
returns-then-place-next-clause-spot c =
    let blocks = c.args.database.now in
    let at = c.loop-at.at in
    let is = text_is blocks at c.text-block.result.now c.text-block.ensures in
    let lines : c.count_lines.result ≡ line_count (text_at blocks at) = c.count_lines.ensures.lines ∙ ap line_count (sym is) in
    let offset = c.offset_in-offset.ensures ∙ ap (λ (t : List ℕ). offset_in c.loop-at.start t c.args.place) (sym is) in
    spot_here blocks at c.loop-at.start c.offset_in-offset.result c.args.place (spot_from 0 c.args.first c.args.place blocks)
    (omega arith) c.if-place-start.false
    (omega (arith, lines, c.if-place-next.true)) offset c.loop-at.invariant.so

pub returns-then-place-next-clause-room : goal.returns-then-place-next-clause-room
returns-then-place-next-clause-room c =
    let short = text_short c.args.first c.args.database.now c.loop-at.at c.requires (omega arith) in
    omega (arith, short, c.requires.few)

pub loop-at-preserved : goal.loop-at-preserved
loop-at-preserved c =
    let blocks = c.args.database.now in
    let at = c.loop-at.at in
    let is = text_is blocks at c.text-block.result.now c.text-block.ensures in
    let short = text_short c.args.first blocks at c.requires (omega arith) in
    let lines : c.count_lines.result ≡ line_count (text_at blocks at) = c.count_lines.ensures.lines ∙ ap line_count (sym is) in
    record {
      so = ap (λ (n : ℕ). spot_from (at + 1) (c.loop-at.start + n) c.args.place (drop (at + 1) blocks)) lines
          ∙ spot_later blocks at c.loop-at.start c.args.place (spot_from 0 c.args.first c.args.place blocks) (omega arith) c.if-place-start.false
          (omega (arith, lines, c.if-place-next.false)) c.loop-at.invariant.so;
      room = omega (arith, short, c.count_lines.ensures.within, ap length is);
    }
