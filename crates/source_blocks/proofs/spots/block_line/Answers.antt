use Rattle.std.proofs.Common.{◌<◌, ap, length, sym, ◌∙◌, arith}
use Rattle.ti_text.specs.Lines.{line_count}
use Rattle.source_blocks.proofs.Outlines.{text_is, text_short}
use Rattle.source_blocks.proofs.Spotting.{lines_more}
use Rattle.source_blocks.proofs.spots.block_line.Goals as goal

pub loop-before-preserved : goal.loop-before-preserved
loop-before-preserved c =
    let blocks = c.args.database.now in
    let at = c.loop-before.before in
    let within : at < length blocks = omega arith in
    let is = text_is blocks at c.text.result.now c.text.ensures in
    let short = text_short c.args.first blocks at c.requires.count within in
    let lines = c.count_lines-line.ensures.lines ∙ ap line_count (sym is) in
    record {
      so = omega (arith, lines, lines_more blocks at within, c.loop-before.invariant.so);
      room = omega (arith, short, c.count_lines-line.ensures.within, ap length is);
    }

pub returns-clause-room : goal.returns-clause-room
returns-clause-room c =
    let short = text_short c.args.first c.args.database.now c.args.at c.requires.count c.requires.within in
    let few = c.requires.count.few in
    omega (arith, short, few)
