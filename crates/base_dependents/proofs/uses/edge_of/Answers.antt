use Rattle.std.proofs.Common.{Some, sym, ◌∙◌, ap}
use Rattle.ti_source.specs.Reading.{item_of, said_of}
use Rattle.base_meaning.specs.Reaching.{used_name}
use Rattle.base_dependents.proofs.Edges.{edge_there}
use Rattle.base_dependents.proofs.uses.edge_of.Goals as goal

pub returns : goal.returns
returns c =
    edge_there c.args.slots.now c.args.found.now.keys (item_of c.args.item.now) c.as_slice.result.now c.in_ok-owner.owner c.get_index_of.result c.requires
    (ap (λ w. used_name (said_of w)) c.in-Import.is ∙ ap (λ n. Some n) (sym c.as_slice.ensures.value))
    (c.owner.ensures.some c.in_ok-owner.owner c.in_ok-owner.was)
    c.get_index_of.ensures.index c.get_index_of.ensures.found
