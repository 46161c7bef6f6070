use Rattle.std.proofs.Common.{arith}
use Rattle.source_document.proofs.LocalCuts.{first_taken, single_at}
use Rattle.source_document.proofs.recutting.push_first.Goals as goal

pub first_block-requires : goal.first_block-requires
first_block-requires c = single_at c.args.held.now c.loop-at.at _ (omega arith) c.requires

pub loop-at-preserved : goal.loop-at-preserved
loop-at-preserved c =
    first_taken c.loop-at.texts.items c.push.new.self.items c.in-Some.own c.loop-at.rest.now c.in-Some.after.now _ c.in_ok-push-in-Some.ensures.items
    c.in-Some.ensures c.loop-at.invariant
