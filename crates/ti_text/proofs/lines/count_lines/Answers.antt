use Rattle.std.proofs.Common.{ap, ◌∙◌, arith}
use Rattle.std.proofs.lemmas.List.{take_rest}
use Rattle.ti_text.specs.Lines.{line_count}
use Rattle.ti_text.proofs.LineLaws.{lines_of_more, lines_about}
use Rattle.ti_text.proofs.lines.count_lines.Goals as goal

pub loop-at-preserved : goal.loop-at-preserved
loop-at-preserved c = record {
  within = omega (arith, c.loop-at-test.true, c.loop-at.invariant.within);
  lines = omega (arith, lines_of_more c.args.text.now c.loop-at.at 32, c.count_in.ensures, c.loop-at.invariant.lines);
}

pub returns-clause-lines : goal.returns-clause-lines
returns-clause-lines c =
    let rest = c.count_each.ensures.lines ∙ ap line_count (take_rest c.args.text.now c.loop-at.at) in
    omega (arith, lines_about c.args.text.now c.loop-at.at, rest, c.loop-at.invariant.lines)
