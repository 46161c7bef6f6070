use Rattle.std.proofs.Common.{◌≡◌, ◌-◌, List, ℕ, length, remove, ap, ◌∙◌, arith}
use Rattle.std.proofs.lemmas.Result.{err_from_is_err_and}
use Rattle.source_document.proofs.Fitting.{memory_alone, removal_sound}
use Rattle.source_document.proofs.ListEdits.{lead_more, removed}
use Rattle.source_document.proofs.TextLists.{length_removing}
use Rattle.source_document.proofs.exchanging.remove_each.Goals as goal

pub loop-k-preserved : goal.loop-k-preserved
loop-k-preserved c = record {
  made = c.in_ok-remove.ensures.step.1 ∙ ap (λ (b : List (List ℕ)). remove b c.args.at) c.loop-k.invariant.made
      ∙ removed c.args.database.now c.args.at c.loop-k._k (omega arith);
  lead = lead_more c.loop-k._k c.args.database.now c.loop-k.database c.remove.new.self _ c.loop-k.invariant.lead c.in_ok-remove.ensures.step;
}

pub returns-in_err-remove-clause-refused : goal.returns-in_err-remove-clause-refused
returns-in_err-remove-clause-refused c =
    let p = err_from_is_err_and c.from_residual.result c.from_residual.ensures.1 in
    let len : length c.loop-k.database ≡ length c.args.database.now - c.loop-k._k =
    length_removing c.args.database.now c.loop-k.database c.args.at c.loop-k._k (omega arith) c.loop-k.invariant.made in
    rw (p.1, p.2) (memory_alone c.loop-k.database _ _ c.remove.new.self c.in_err-remove.ensures.step
    (removal_sound c.loop-k.database c.args.at (omega (arith, len))))
