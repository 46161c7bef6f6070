use Rattle.std.proofs.lemmas.Result.{err_from_is_err_and}
use Rattle.ti_spelling.proofs.SpellingLaws.{fault_explains, memory_explains, unescaped_spells}
use Rattle.ti_spelling.proofs.ValueLaws.{spelled_no_longer, spelled_no_nul}
use Rattle.ti_spelling.proofs.spelling.unescape_into.Goals as goal

pub returns-in-Ok-clause-ok : goal.returns-in-Ok-clause-ok
returns-in-Ok-clause-ok c = unescaped_spells c.in-Ok.ensures

pub returns-in-Ok-clause-no_nul : goal.returns-in-Ok-clause-no_nul
returns-in-Ok-clause-no_nul c = spelled_no_nul (unescaped_spells c.in-Ok.ensures)

pub returns-in-Ok-clause-no_longer : goal.returns-in-Ok-clause-no_longer
returns-in-Ok-clause-no_longer c = spelled_no_longer (unescaped_spells c.in-Ok.ensures)

pub returns-in_err-check-clause-err : goal.returns-in_err-check-clause-err
returns-in_err-check-clause-err c =
    let p = err_from_is_err_and c.from_residual.result c.from_residual.ensures.1 in
    rw (p.1, p.2) (fault_explains c.args.raw.now c.in_err-check.field-0.0 c.in_err-check.ensures.err)

pub returns-clause-err : goal.returns-clause-err
returns-clause-err c = memory_explains c.args.raw.now c.in_ok-check.ensures.ok
