use Rattle.std.proofs.Common.{map, ap, subst, sym, ◌∙◌}
use Rattle.base_meaning.specs.Edits.{change_of}
use Rattle.tools_sources.specs.inside.Loading.{first_refusal}
use Rattle.tools_sources.proofs.Inserting.{IsRunOf, inserted_by_run}
use Rattle.tools_sources.proofs.Refusing.{texts_single}
use Rattle.tools_sources.proofs.loading.database_of_ended.Goals as goal

pub returns-clause-held : goal.returns-clause-held
returns-clause-held c =
    let source = c.args.source.now in
    let single = texts_single c.blocks_are_single.ensures c.each_has_cut.ensures source in
    let made = inserted_by_run source (map change_of c.deref.result.now) c.in_ok-database.outcomes.items c.in_ok-database.database.texts single c.requires
    (ap (map change_of) c.deref.ensures.value ∙ c.in_ok-edits.ensures) c.in_ok-database.ensures.run in
    (subst (IsRunOf source c.in_ok-database.database.texts) (ap first_refusal (sym c.deref-2.ensures.value) ∙ c.in_ok-check_outcomes.ensures) made).0

pub returns-clause-taken : goal.returns-clause-taken
returns-clause-taken c =
    let source = c.args.source.now in
    let single = texts_single c.blocks_are_single.ensures c.each_has_cut.ensures source in
    let made = inserted_by_run source (map change_of c.deref.result.now) c.in_ok-database.outcomes.items c.in_ok-database.database.texts single c.requires
    (ap (map change_of) c.deref.ensures.value ∙ c.in_ok-edits.ensures) c.in_ok-database.ensures.run in
    (subst (IsRunOf source c.in_ok-database.database.texts) (ap first_refusal (sym c.deref-2.ensures.value) ∙ c.in_ok-check_outcomes.ensures) made).1
