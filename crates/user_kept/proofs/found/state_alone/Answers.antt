use Rattle.std.proofs.Common.{subst}
use Rattle.std.proofs.lemmas.Option.{same_Some}
use Rattle.ti_source.specs.declared.parsing.Rule.TheVariants.{Leftmost}
use Rattle.ti_source.specs.Parsing.{reading_of_text}
use Rattle.user_values.proofs.Making.{resolved}
use Rattle.user_values.proofs.Resolving.{read_text}
use Rattle.user_compiling.specs.Entries.{IsStateOf, does_not_resolve, state_seen}
use Rattle.user_compiling.specs.declared.compiled.Compiled.{Compiled}
use Rattle.user_kept.proofs.Keeping.{unresolved_there}
use Rattle.user_kept.proofs.found.state_alone.Goals as goal

pub returns-then-is_none : goal.returns-then-is_none
returns-then-is_none c = λ state e text stands.
    let db = c.args.database.now in
    subst (λ (s : Compiled). IsStateOf db text (state_seen s)) (same_Some _ state e)
    (does_not_resolve (unresolved_there db text (λ table. table.now) c.values.result c.if-is_none.ensures
    (c.values.ensures (reading_of_text text) (read_text db c.args.at text stands))))

pub table_alone-requires-clause-whole : goal.table_alone-requires-clause-whole
table_alone-requires-clause-whole c = λ text stands.
    let db = c.args.database.now in
    resolved Leftmost db text (λ table. table.now) c.values.result c.if-is_none.ensures (c.values.ensures (reading_of_text text) (read_text db c.args.at text stands))
