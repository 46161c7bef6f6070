use Rattle.std.proofs.Common.{ℕ, ◌+◌, List, ◌∷◌, length, take, sym, ap, ◌∙◌, arith}
use Rattle.std.proofs.lemmas.List.{drop_all, take_rest}
use Rattle.source_format.specs.Pieces.{lines_of}
use Rattle.source_format.proofs.Stepping.{line_found, line_missing}
use Rattle.source_kept_lines.proofs.lines.first_line.Goals as goal

pub returns-in-Some-clause-lines : goal.returns-in-Some-clause-lines
returns-in-Some-clause-lines c =
    let text = c.args.text.now in
    line_found text c.in-Some.at c.in-Some.ensures
    ∙ ap (λ (t : List ℕ). take c.in-Some.at text ∷ lines_of t) (sym (take_rest text (c.in-Some.at + 1)))

pub returns-in-None-clause-lines : goal.returns-in-None-clause-lines
returns-in-None-clause-lines c =
    let text = c.args.text.now in
    line_missing text c.requires c.in-None.ensures
    ∙ ap (λ (t : List ℕ). text ∷ lines_of t) (sym (take_rest text (length text) ∙ drop_all (length text) text (omega arith)))
