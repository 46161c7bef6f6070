use Rattle.base_meaning.specs.Readings.{reading_by}
use Rattle.user_values.proofs.Making.{read_by_text}
use Rattle.user_compiling.specs.Entries.{does_not_resolve, does_resolve}
use Rattle.user_compiling.proofs.compiling.compile_with.Goals as goal

pub compile_resolved-requires-clause-table : goal.compile_resolved-requires-clause-table
compile_resolved-requires-clause-table c = λ text stands. c.in-Some.ensures (reading_by c.args.database.now.rule text)
    (read_by_text c.args.database.now.rule c.args.database.now.texts c.args.at text stands)

pub returns-in_ok-state-in-Some : goal.returns-in_ok-state-in-Some
returns-in_ok-state-in-Some c = λ text stands. does_resolve (c.in_ok-state-in-Some.ensures text stands)

pub returns-in-None : goal.returns-in-None
returns-in-None c = λ text stands. does_not_resolve (c.in-None.ensures (reading_by c.args.database.now.rule text)
    (read_by_text c.args.database.now.rule c.args.database.now.texts c.args.at text stands))
