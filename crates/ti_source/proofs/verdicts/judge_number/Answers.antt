use Rattle.std.proofs.Common.{Ok, Err, ap, refl, sym}
use Rattle.ti_source.specs.Verdicts.{number_verdict}
use Rattle.ti_spelling.proofs.NumberLemmas.{one_reading}
use Rattle.ti_source.proofs.verdicts.judge_number.Goals as goal

pub returns-in-Ok : goal.returns-in-Ok
returns-in-Ok c = ap (number_verdict c.args.cap) (sym (one_reading c.args.text.now (Ok c.in-Ok.number) c.in-Ok.ensures))

pub returns-in-Err-Bad : goal.returns-in-Err-Bad
returns-in-Err-Bad c = rw (one_reading c.args.text.now (Err c.in-Err-Bad.field-0) c.in-Err-Bad.ensures, c.in-Err-Bad.field-0-is) refl

pub returns-in-Err-TooLarge : goal.returns-in-Err-TooLarge
returns-in-Err-TooLarge c = rw (one_reading c.args.text.now (Err c.in-Err-TooLarge.field-0) c.in-Err-TooLarge.ensures, c.in-Err-TooLarge.field-0-is) refl
