use Rattle.std.proofs.Common.{◌≡◌, ◌∙◌, Bor, Err, List, ap, inl, inr, length, option_map, subst, sym}
use Rattle.std.proofs.lemmas.Result.{IfOk-weaker}
use Rattle.base_meaning.specs.Compiled.{EntryState}
use Rattle.user_compiling.specs.declared.compiled.Compiled.{Compiled}
use Rattle.everyday_tic.specs.Entries.{BecomeThese}
use Rattle.everyday_tic.specs.inside.States.{states_of}
use Rattle.everyday_tic.proofs.compiling.compile_all.Goals as goal

pub draw_all-requires : goal.draw_all-requires
draw_all-requires c =
    let db = c.args.database.now.texts in
    let rule = c.args.database.now.rule in
    record {
      within = c.requires.within;
      found = c.requires.found;
      states = subst (BecomeThese rule c.args.options.now.user_defined db) (ap (states_of rule db) (sym c.slice_of.ensures.items)) c.in-Ok.ensures.states;
      as_many = subst (λ (s : List EntryState). length s ≡ length db) (ap (states_of rule db) (sym c.slice_of.ensures.items)) c.in-Ok.ensures.as_many;
      first = c.requires.first;
      kept = c.in-Ok.ensures.kept ∙ sym c.slice_of.ensures.kept;
    }

pub returns-in-Ok : goal.returns-in-Ok
returns-in-Ok c =
    let db = c.args.database.now.texts in
    let rule = c.args.database.now.rule in
    let states = states_of rule db (option_map (λ (c : Bor (List Compiled)). c.now) c.slice_of.result) in
    let are = subst (BecomeThese rule c.args.options.now.user_defined db) (ap (states_of rule db) (sym c.slice_of.ensures.items)) c.in-Ok.ensures.states in
    IfOk-weaker c.draw_all.result _ _ (λ outcome is. inr (c.in-Ok.ensures.few, states, are, is.0, is.1, is.2, is.3, is.4)) c.draw_all.ensures

pub not_compiled-requires : goal.not_compiled-requires
not_compiled-requires c = record {
  over = λ at e. c.in-Err.ensures.too_many at (ap (λ x. Err x) e);
  first = c.requires.first;
}

pub returns-in-Err : goal.returns-in-Err
returns-in-Err c =
    IfOk-weaker c.not_compiled.result _ _
    (λ outcome h. inl (c.in-Err.ensures.too_many_kept h.0 (ap (λ x. Err x) h.1), h.0, c.in-Err.ensures.too_many h.0 (ap (λ x. Err x) h.1), h.2))
    c.not_compiled.ensures
