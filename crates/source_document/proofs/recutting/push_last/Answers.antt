use Rattle.std.proofs.Common.{◌-◌, arith, length}
use Rattle.source_document.proofs.LocalCuts.{last_taken, single_at}
use Rattle.source_document.proofs.recutting.push_last.Goals as goal

pub last_block-requires : goal.last_block-requires
last_block-requires c = single_at c.args.held.now (length c.args.held.now - 1 - c.loop-at.at) _ (omega arith) c.requires

pub loop-at-preserved : goal.loop-at-preserved
loop-at-preserved c =
    last_taken c.loop-at.texts.items c.push.new.self.items c.in-Some.own c.loop-at.before.now c.in-Some.others.now _ c.in_ok-push-in-Some.ensures.items
    c.in-Some.ensures c.loop-at.invariant
