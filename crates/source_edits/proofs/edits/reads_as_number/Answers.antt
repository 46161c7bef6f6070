use Rattle.std.proofs.Common.{Ok, Err, ap, is_ok, sym}
use Rattle.ti_spelling.proofs.NumberLemmas.{one_reading}
use Rattle.source_edits.proofs.edits.reads_as_number.Goals as goal

pub returns-in-Ok : goal.returns-in-Ok
returns-in-Ok c = ap (λ r. is_ok r) (sym (one_reading c.args.value.now (Ok c.in-Ok.field-0) c.in-Ok.ensures))

pub returns-in-Err : goal.returns-in-Err
returns-in-Err c = ap (λ r. is_ok r) (sym (one_reading c.args.value.now (Err c.in-Err.field-0) c.in-Err.ensures))
