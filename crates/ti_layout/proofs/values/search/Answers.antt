-- the search compares the rank of each entry's capability
use Rattle.std.proofs.Common.{rules}
use Rattle.std.proofs.lemmas.List.Sorted.{answers_always}
use Rattle.ti_layout.specs.Values.{rank_of}
use Rattle.ti_layout.proofs.Searched.{searched}
use Rattle.ti_layout.proofs.values.search.Goals as goal

pub returns-clause-found : goal.returns-clause-found
returns-clause-found c =
    let by_rank = c.binary_search_by_key.ensures.position (λ e. rank_of e.0) (answers_always _ _ _ (λ f a r g called. search rules)) in
    (searched _ c.requires c.args.cap c.rank-wanted.ensures.valid _ _ c.rank-wanted.ensures.value c.binary_search_by_key.ensures.bound by_rank).found

pub returns-clause-absent : goal.returns-clause-absent
returns-clause-absent c =
    let by_rank = c.binary_search_by_key.ensures.position (λ e. rank_of e.0) (answers_always _ _ _ (λ f a r g called. search rules)) in
    (searched _ c.requires c.args.cap c.rank-wanted.ensures.valid _ _ c.rank-wanted.ensures.value c.binary_search_by_key.ensures.bound by_rank).absent
