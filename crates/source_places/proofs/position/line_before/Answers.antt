use Rattle.std.proofs.Common.{◌≡◌, ◌<◌, ◌==◌, true, ap, sym, length, ◌∙◌, arith, take, get_or}
use Rattle.std.proofs.lemmas.List.{get_or-take, length-take-le}
use Rattle.source_places.proofs.Onward.{place_first}
use Rattle.source_places.proofs.PastLines.{start_counted}
use Rattle.source_places.proofs.Places.{at}
use Rattle.source_places.proofs.position.line_before.Goals as goal

pub returns-in-Some-clause-place : goal.returns-in-Some-clause-place
returns-in-Some-clause-place c =
    let text = c.args.text.now in
    let found = c.in-Some.at in
    let size = length-take-le c.args.offset text c.requires in
    let high : found < length (take c.args.offset text) = c.in-Some.ensures.0.high in
    let newline : (get_or text found 0 == 10) ≡ true =
    ap (λ byte. byte == 10) (sym (get_or-take c.args.offset text found 0 (omega (arith, high, size)))) ∙ c.in-Some.ensures.1 in
    ap (λ line. at line 0) c.count_lines-line.ensures.lines ∙ start_counted text found (omega (arith, high, size, c.requires)) newline

pub returns-in-None-clause-place : goal.returns-in-None-clause-place
returns-in-None-clause-place c = sym (place_first (at 0 0) c.args.text.now)
