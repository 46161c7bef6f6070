use Rattle.std.proofs.Common.{Ok, Err, ap, sym}
use Rattle.std.specs.Rc.{rc_slice_items}
use Rattle.user_items.specs.Verdicts.{number_verdict}
use Rattle.ti_spelling.proofs.NumberLemmas.{one_reading}
use Rattle.user_items.proofs.verdicts.judge_number.Goals as goal

pub returns-in-Ok : goal.returns-in-Ok
returns-in-Ok c = ap (number_verdict (rc_slice_items c.args.name)) (sym (one_reading c.args.text.now (Ok c.in-Ok.number) c.in-Ok.ensures))

pub returns-in-Err : goal.returns-in-Err
returns-in-Err c = ap (number_verdict (rc_slice_items c.args.name)) (sym (one_reading c.args.text.now (Err c.in-Err.field-0) c.in-Err.ensures))
