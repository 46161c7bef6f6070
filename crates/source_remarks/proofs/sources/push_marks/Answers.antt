use Rattle.std.proofs.Common.{◌≡◌, arith, refl}
use Rattle.ti_text.specs.Limits.{block_bytes_max}
use Rattle.source_remarks.proofs.Lines.{no_mark, on_lines}
use Rattle.source_remarks.proofs.sources.push_marks.Goals as goal

pub shown_after-requires-clause-start : goal.shown_after-requires-clause-start
shown_after-requires-clause-start c =
    let on = on_lines c.args.text.now c.args.marks.now c.loop-mark.mark-index no_mark c.requires.marks (omega arith) in
    let limit : block_bytes_max ≡ 1048576 = refl in
    omega (arith, on.start, limit, c.requires.short)

pub shown_after-requires-clause-end : goal.shown_after-requires-clause-end
shown_after-requires-clause-end c =
    let on = on_lines c.args.text.now c.args.marks.now c.loop-mark.mark-index no_mark c.requires.marks (omega arith) in
    let limit : block_bytes_max ≡ 1048576 = refl in
    omega (arith, on.end, limit, c.requires.short)
