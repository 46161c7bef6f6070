use Rattle.std.proofs.Common.{◌≢◌, refl, rules, tests}
use Rattle.ti_spelling.specs.declared.spelling.UnescapeError.TheVariants.{Memory}
use Rattle.ti_spelling.proofs.SpellingLaws.{spells_unescaped}
use Rattle.ti_source.proofs.JudgingLaws.{caused}
use Rattle.user_items.proofs.verdicts.judge_text.Goals as goal

pub returns-then-odd : goal.returns-then-odd
returns-then-odd c = rw (spells_unescaped c.in-Ok.ensures.ok, c.if-odd.true, c.in_ok-text-in-Ok.ensures.ok, c.as_slice.ensures.value) refl

pub returns-in-Ok : goal.returns-in-Ok
returns-in-Ok c = rw (spells_unescaped c.in-Ok.ensures.ok, c.if-odd.false, c.in_ok-text-in-Ok.ensures.ok, c.as_slice.ensures.value) refl

pub returns : goal.returns
returns c =
    let other : c.in-Err.field-0 ≢ Memory = search (rules, tests) in
    rw (caused c.args.value.now c.in-Err.field-0 other c.in-Err.ensures.err) refl
