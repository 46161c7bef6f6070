use Rattle.std.proofs.Common.{length, arith}
use Rattle.ti_text.specs.Lists.{AreBelow}
use Rattle.base_components.proofs.Searching.{marks_more}
use Rattle.base_components.proofs.search.mark_closed.Goals as goal

pub loop-node-preserved : goal.loop-node-preserved
loop-node-preserved c =
    let known : AreBelow c.args.nodes.now (length c.args.progress.now.items) = λ k v e. omega (arith, c.requires k v e, c.args.progress.now.ok.0) in
    marks_more c.args.progress.now.items c.loop-node.progress.items c.args.nodes.now c.loop-node.node-index c.args.number c.loop-node.invariant
    c.loop-node-test.true known
