use Rattle.std.proofs.Common.{◌≡◌, None}
use Rattle.user_values.specs.Expansion.{expansion_by}
use Rattle.user_compiling.specs.Entries.{does_not_resolve}
use Rattle.user_compiling.proofs.States.{none_without}
use Rattle.user_compiling.proofs.compiling.compile_block.Goals as goal

pub compile_with-requires-clause-user : goal.compile_with-requires-clause-user
compile_with-requires-clause-user c = λ text stands. rw c.in-Some.is at (c.requires.user text stands)

pub returns-in-None : goal.returns-in-None
returns-in-None c = λ text stands.
    let none : expansion_by c.args.database.now.rule c.args.database.now.texts text ≡ None = rw c.in-None.is at (c.requires.user text stands) in
    does_not_resolve
    (none_without c.values_by_rule_are_where_resolved.ensures c.args.database.now.rule c.args.database.now.texts text none)
