use Rattle.std.proofs.Common.{◌+◌, sym, ◌∙◌}
use Rattle.std.proofs.lemmas.List.{take_rest}
use Rattle.ti_source.proofs.FoldLemmas.{after_line-first, after_line-nowhere}
use Rattle.ti_source.proofs.folding.after_line.Goals as goal

pub returns-in-Some-clause-rest : goal.returns-in-Some-clause-rest
returns-in-Some-clause-rest c =
    take_rest c.args.text.now (c.in-Some.end + 1) ∙ sym (after_line-first c.args.text.now c.in-Some.end c.in-Some.ensures)

pub returns-in-None-clause-rest : goal.returns-in-None-clause-rest
returns-in-None-clause-rest c = sym (after_line-nowhere c.args.text.now c.in-None.ensures)
