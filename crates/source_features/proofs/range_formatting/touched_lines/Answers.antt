use Rattle.std.proofs.Common.{ℕ, ◌≡◌, ◌+◌, Option, ap, drop, length, option_map, sym, ◌∙◌, arith}
use Rattle.ti_text.specs.Lines.{line_count}
use Rattle.source_document.specs.Diagnostics.{text_at}
use Rattle.source_blocks.proofs.Outlines.{text_is, text_short}
use Rattle.source_features.specs.RangeFormatting.{joined, lines_seen, touched, touched_block}
use Rattle.source_features.proofs.Touching.{joined_all, touched_more}
use Rattle.source_features.proofs.range_formatting.touched_lines.Goals as goal

pub overflow_add-end : goal.overflow_add-end
overflow_add-end c =
    let blocks = c.args.database.now in
    let is = text_is blocks c.loop-at.at c.text.result.now c.text.ensures in
    let short = text_short c.args.head blocks c.loop-at.at c.requires (omega arith) in
    omega (arith, short, c.count_lines.ensures.within, ap length is, c.requires.few)

pub loop-at-preserved : goal.loop-at-preserved
loop-at-preserved c =
    let blocks = c.args.database.now in
    let at = c.loop-at.at in
    let start = c.loop-at.start in
    let first = c.args.first in
    let last = c.args.last in
    let is = text_is blocks at c.text.result.now c.text.ensures in
    let short = text_short c.args.head blocks at c.requires (omega arith) in
    let lines : c.count_lines.result ≡ line_count (text_at blocks at) = c.count_lines.ensures.lines ∙ ap line_count (sym is) in
    let found = option_map lines_seen c.loop-at.found in
    let own = touched_block first last start (start + line_count (text_at blocks at)) in
    let rest = touched first last (start + line_count (text_at blocks at)) (drop (at + 1) blocks) in
    let all : option_map lines_seen c.joined-found.result ≡ joined found own =
    c.joined-found.ensures ∙ ap (joined found) (c.touched_block-own.ensures ∙ ap (λ (n : ℕ). touched_block first last start (start + n)) lines) in
    record {
      so = ap (λ (n : ℕ). joined (option_map lines_seen c.joined-found.result) (touched first last (start + n) (drop (at + 1) blocks))) lines
          ∙ ap (λ (o : Option (ℕ × ℕ)). joined o rest) all
          ∙ joined_all found own rest
          ∙ ap (joined found) (sym (touched_more blocks at first last start (omega arith)))
          ∙ c.loop-at.invariant.so;
      room = omega (arith, short, c.count_lines.ensures.within, ap length is);
    }
