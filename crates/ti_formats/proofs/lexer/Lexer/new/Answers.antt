use Rattle.std.proofs.Common.{◌≡◌, ◌-◌, ap, sym, ◌∙◌, subst, arith, length}
use Rattle.ti_formats.specs.Reading.{IsReadingOf}
use Rattle.ti_formats.specs.inside.Formats.{accepted_of, scan}
use Rattle.ti_formats.proofs.Lexing.{left-few}
use Rattle.ti_formats.proofs.OneTree.{reading_of}
use Rattle.ti_formats.proofs.lexer.Lexer.new.Goals as goal

pub returns-clause-reading : goal.returns-clause-reading
returns-clause-reading c =
    let text = c.args.format.now in
    let first : length text - length text ≡ 0 = omega arith in
    subst (IsReadingOf text)
    (sym (ap (λ place. accepted_of c.new.result (scan 0 place text)) first ∙ ap (λ phases. accepted_of phases (scan 0 0 text)) c.new.ensures))
    (reading_of text)

pub returns-clause-bound : goal.returns-clause-bound
returns-clause-bound c =
    let text = c.args.format.now in
    omega (arith, left-few (record { place = length text - length text; text = text; phases = c.new.result }))
