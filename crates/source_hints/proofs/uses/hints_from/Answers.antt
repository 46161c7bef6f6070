use Rattle.std.proofs.Common.{arith}
use Rattle.base_meaning.specs.Owner.{readings}
use Rattle.source_hints.proofs.Using.{from_next}
use Rattle.source_hints.proofs.uses.hints_from.Goals as goal

pub loop-at-preserved : goal.loop-at-preserved
loop-at-preserved c =
    let l = c.loop-at in
    from_next (readings c.args.database.now) c.args.text.now c.args.items.now l.at (record { start = 0; end = 0 }) l.hints.items _ _ l.said.items
    l.uses.items _ _ (omega arith) c.in_ok-push_item.ensures.hints c.in_ok-push_item.ensures.said c.in_ok-push_item.ensures.uses l.invariant
