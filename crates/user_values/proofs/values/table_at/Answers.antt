use Rattle.base_meaning.specs.Readings.{reading_by}
use Rattle.user_values.proofs.Making.{read_by_text, unresolved, resolved}
use Rattle.user_values.proofs.values.table_at.Goals as goal

pub returns-then-is_none : goal.returns-then-is_none
returns-then-is_none c = λ text stands.
    let db = c.args.database.now.texts in
    unresolved c.args.database.now.rule db text (λ table. table.now) c.values.result c.if-is_none.ensures (c.values.ensures (reading_by c.args.database.now.rule text) (read_by_text c.args.database.now.rule db c.args.at text stands))

pub make_table-requires-clause-whole : goal.make_table-requires-clause-whole
make_table-requires-clause-whole c = λ text stands.
    let db = c.args.database.now.texts in
    resolved c.args.database.now.rule db text (λ table. table.now) c.values.result c.if-is_none.ensures (c.values.ensures (reading_by c.args.database.now.rule text) (read_by_text c.args.database.now.rule db c.args.at text stands))

pub make_table-requires-clause-owners : goal.make_table-requires-clause-owners
make_table-requires-clause-owners c = λ text stands.
    let db = c.args.database.now.texts in
    c.requires.owners text stands (resolved c.args.database.now.rule db text (λ table. table.now) c.values.result c.if-is_none.ensures
    (c.values.ensures (reading_by c.args.database.now.rule text) (read_by_text c.args.database.now.rule db c.args.at text stands)))
