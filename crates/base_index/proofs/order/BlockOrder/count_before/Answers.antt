use Rattle.std.proofs.Common.{rules, get_or}
use Rattle.std.proofs.lemmas.List.Sorted.{IsPartitionPoint-from_clause}
use Rattle.base_index.specs.Listing.{ListsBefore}
use Rattle.base_index.proofs.Filtering.{counted, is_below}
use Rattle.base_index.proofs.order.BlockOrder.count_before.Goals as goal

pub returns-clause-count : goal.returns-clause-count
returns-clause-count c =
    let o = c.self.inside in
    let list = c.args.list.now in
    let found = c.partition_point in
    let before : ListsBefore o.ids.items list c.args.id found.result =
    counted o.ids.items o.labels.items list c.args.id found.result c.self.invariant.labelled c.self.invariant.ids_known found.ensures.bound
    (λ parted. IsPartitionPoint-from_clause (is_below o.labels.items (get_or o.labels.items c.args.id 0)) list found.result found.ensures.partitioned parted
    (λ a r f k. search rules)) in
    rw (← c.self.view_is) before
