use Rattle.std.proofs.Common.{◌≢◌, refl, rules, tests}
use Rattle.ti_spelling.specs.declared.spelling.UnescapeError.TheVariants.{Memory}
use Rattle.ti_spelling.proofs.SpellingLaws.{spells_unescaped}
use Rattle.ti_source.proofs.JudgingLaws.{caused}
use Rattle.source_edits.proofs.carets.can_be_read.Goals as goal

pub returns-in-Ok : goal.returns-in-Ok
returns-in-Ok c = rw (spells_unescaped c.in-Ok.ensures.ok) refl

pub returns-in-Err : goal.returns-in-Err
returns-in-Err c =
    let other : c.in-Err.field-0 ≢ Memory = search (rules, tests) in
    rw (caused c.args.text.now c.in-Err.field-0 other c.in-Err.ensures.err) refl
