use Rattle.std.proofs.Common.{ℕ, ◌++◌, ◌+◌, ap, drop, length, sym, ◌∙◌, arith}
use Rattle.ti_text.specs.Lines.{line_count}
use Rattle.source_blocks.proofs.Outlines.{text_is, text_short}
use Rattle.source_names.specs.Names.{ranges_from}
use Rattle.source_names.specs.inside.Seeking.{sought_seen}
use Rattle.source_names.proofs.Seeking.{ranges_next}
use Rattle.source_names.proofs.names.push_all.Goals as goal

pub loop-at-preserved : goal.loop-at-preserved
loop-at-preserved c =
    let blocks = c.args.database.now in
    let sought = sought_seen c.args.sought in
    let at = c.loop-at.at in
    let is = text_is blocks at c.text.result.now c.text.ensures in
    let short = text_short c.args.first blocks at c.requires (omega arith) in
    let lines = c.count_lines-line.ensures.lines ∙ ap line_count (sym is) in
    record {
      so = ap (λ (n : ℕ). c.push_sought.new.ranges.items ++ ranges_from blocks sought (at + 1) (c.loop-at.line + n) (drop (at + 1) blocks)) lines
          ∙ ranges_next blocks sought c.loop-at.ranges.items c.push_sought.new.ranges.items c.loop-at.line at _
          (omega arith) c.loop-at.invariant.so c.in_ok-push_sought.ensures;
      room = omega (arith, short, c.count_lines-line.ensures.within, ap length is);
    }
