use Rattle.std.proofs.Common.{◌≡◌, ◌<◌, false, ap, arith, drop, length, sym, ◌∙◌}
use Rattle.std.proofs.lemmas.List.{take_rest}
use Rattle.source_places.specs.Position.{ends_line}
use Rattle.source_places.proofs.Places.{until_end_next}
use Rattle.source_places.proofs.lines.first_of.Goals as goal

pub loop-at-preserved : goal.loop-at-preserved
loop-at-preserved c =
    let text = c.args.text.now in
    let within : c.loop-at.at < length text = omega arith in
    let inside : ends_line (drop c.loop-at.at text) ≡ false =
    ap ends_line (sym (take_rest text c.loop-at.at)) ∙ sym c.ends_line.ensures ∙ c.if-ends_line.false in
    until_end_next text c.loop-at.at within inside c.loop-at.invariant
