-- the search compares the name of each entry
use Rattle.std.proofs.Common.{rules}
use Rattle.std.proofs.lemmas.Fn.{always_returns_same}
use Rattle.user_values.proofs.Searching.{searched_absent, searched_found, to_name}
use Rattle.user_values.proofs.entries.search.Goals as goal

pub returns-clause-found : goal.returns-clause-found
returns-clause-found c =
    let by_name = c.binary_search_by.ensures.position (to_name c.args.name.now) (always_returns_same _ _ _ (λ a r f k. search rules)) in
    searched_found c.args.entries.now c.requires c.args.name.now _ c.binary_search_by.ensures.bound by_name

pub returns-clause-absent : goal.returns-clause-absent
returns-clause-absent c =
    let by_name = c.binary_search_by.ensures.position (to_name c.args.name.now) (always_returns_same _ _ _ (λ a r f k. search rules)) in
    searched_absent c.args.entries.now c.requires c.args.name.now _ c.binary_search_by.ensures.bound by_name
