use Rattle.std.proofs.Common.{Some, ap, sym, ◌∙◌, get_or}
use Rattle.std.proofs.lemmas.Option.{slice_get-get_or, same_Some}
use Rattle.base_components.specs.declared.search.Progress.TheVariants.{Unseen, Closed}
use Rattle.base_components.proofs.Ending.{numbers_more}
use Rattle.base_components.proofs.components.numbers.Goals as goal

pub unreachable-requires : goal.unreachable-requires
unreachable-requires c =
    let nodes = c.args.progress.now in
    let here = slice_get-get_or nodes c.loop-node.node-index Unseen c.loop-node-test.true in
    let closed = c.requires c.loop-node.node-index c.loop-node-test.true in
    c.in_default.not-Closed closed.0 (same_Some (get_or nodes c.loop-node.node-index Unseen) (Closed closed.0) (sym here ∙ closed.1))

pub loop-node-preserved : goal.loop-node-preserved
loop-node-preserved c =
    let nodes = c.args.progress.now in
    let here = slice_get-get_or nodes c.loop-node.node-index Unseen c.loop-node-test.true in
    rw c.in_ok-push.ensures.items
    (numbers_more nodes c.loop-node.numbers.items c.loop-node.node-index c.in-Closed.number c.loop-node.invariant (here ∙ ap (λ x. Some x) c.in-Closed.is))
