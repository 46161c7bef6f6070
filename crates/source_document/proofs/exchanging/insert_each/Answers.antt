use Rattle.std.proofs.Common.{◌≡◌, ◌+◌, length, arith}
use Rattle.std.proofs.lemmas.Result.{err_from_is_err_and}
use Rattle.source_document.proofs.Fitting.{insertion_sound, memory_alone}
use Rattle.source_document.proofs.ListEdits.{lead_more}
use Rattle.source_document.proofs.TextLists.{insert_next, length_inserting}
use Rattle.source_document.proofs.exchanging.insert_each.Goals as goal

pub loop-k-preserved : goal.loop-k-preserved
loop-k-preserved c = record {
  made = insert_next c.args.database.now c.loop-k.database c.insert.new.self c.args.texts.now c.args.at c.loop-k.k _ (omega arith)
      (omega arith) c.loop-k.invariant.made c.in_ok-insert.ensures.step.1;
  lead = lead_more c.loop-k.k c.args.database.now c.loop-k.database c.insert.new.self _ c.loop-k.invariant.lead c.in_ok-insert.ensures.step;
}

pub returns-in_err-insert-clause-refused : goal.returns-in_err-insert-clause-refused
returns-in_err-insert-clause-refused c =
    let p = err_from_is_err_and c.from_residual.result c.from_residual.ensures.1 in
    let len : length c.loop-k.database ≡ length c.args.database.now + c.loop-k.k =
    length_inserting c.args.database.now c.loop-k.database c.args.texts.now c.args.at c.loop-k.k (omega arith) (omega arith) c.loop-k.invariant.made in
    rw (p.1, p.2) (memory_alone c.loop-k.database _ _ c.insert.new.self c.in_err-insert.ensures.step
    (insertion_sound c.loop-k.database c.args.texts.now (c.args.at + c.loop-k.k) c.loop-k.k _ (omega arith) (omega (arith, len))
    (omega (arith, len)) c.requires.short))
