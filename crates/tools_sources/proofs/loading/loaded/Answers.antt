use Rattle.std.proofs.Common.{◌≡◌, IfOk, OnOk, List, ℕ, ap, subst, sym, ◌∙◌}
use Rattle.ti_source.specs.Cutting.{blocks_from_head}
use Rattle.tools_sources.specs.Sources.{AreTaken, with_last_newline}
use Rattle.tools_sources.proofs.Ending.{last_byte-newline}
use Rattle.tools_sources.proofs.Inserting.{newline_changes_nothing}
use Rattle.tools_sources.proofs.loading.loaded.Goals as goal

pub database_of_ended-requires-2 : goal.database_of_ended-requires-2
database_of_ended-requires-2 c = rw (c.as_slice.ensures.value, c.in_ok-ended.ensures) (last_byte-newline 10 c.args.source.now)

pub returns-clause-held : goal.returns-clause-held
returns-clause-held c =
    let same = ap with_last_newline (c.as_slice.ensures.value ∙ c.in_ok-ended.ensures)
    ∙ newline_changes_nothing c.args.source.now (sym c.is_ended.ensures ∙ c.if-is_ended.false) in
    subst (λ (ended : List ℕ). IfOk c.database_of_ended-2.result (λ database. database.texts ≡ blocks_from_head 10 ended)) same c.database_of_ended-2.ensures.held

pub returns-clause-taken : goal.returns-clause-taken
returns-clause-taken c =
    let same = ap with_last_newline (c.as_slice.ensures.value ∙ c.in_ok-ended.ensures)
    ∙ newline_changes_nothing c.args.source.now (sym c.is_ended.ensures ∙ c.if-is_ended.false) in
    subst (λ (ended : List ℕ). OnOk c.database_of_ended-2.result (AreTaken (blocks_from_head 10 ended))) same c.database_of_ended-2.ensures.taken
