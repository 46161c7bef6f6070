use Rattle.std.proofs.Common.{◌≡◌, ◌+◌, length, arith}
use Rattle.std.proofs.lemmas.Result.{err_from_is_err_and}
use Rattle.source_document.proofs.Fitting.{memory_alone, replacement_sound}
use Rattle.source_document.proofs.ListEdits.{lead_more}
use Rattle.source_document.proofs.TextLists.{length_replacing, replace_next}
use Rattle.source_document.proofs.exchanging.replace_each.Goals as goal

pub loop-k-preserved : goal.loop-k-preserved
loop-k-preserved c = record {
  made = replace_next c.args.database.now c.loop-k.database c.replace.new.self c.args.texts.now c.args.at c.loop-k.k _ (omega arith)
      (omega arith) c.loop-k.invariant.made c.in_ok-replace.ensures.step.1;
  lead = lead_more c.loop-k.k c.args.database.now c.loop-k.database c.replace.new.self _ c.loop-k.invariant.lead c.in_ok-replace.ensures.step;
}

pub returns-in_err-replace-clause-refused : goal.returns-in_err-replace-clause-refused
returns-in_err-replace-clause-refused c =
    let p = err_from_is_err_and c.from_residual.result c.from_residual.ensures.1 in
    let len : length c.loop-k.database ≡ length c.args.database.now =
    length_replacing c.args.database.now c.loop-k.database c.args.texts.now c.args.at c.loop-k.k (omega arith) (omega arith) c.loop-k.invariant.made in
    rw (p.1, p.2) (memory_alone c.loop-k.database _ _ c.replace.new.self c.in_err-replace.ensures.step
    (replacement_sound c.loop-k.database c.args.texts.now (c.args.at + c.loop-k.k) c.loop-k.k _ (omega arith) (omega (arith, len)) c.requires.short))
