use Rattle.user_values.proofs.Searching.{copied_more}
use Rattle.user_values.proofs.entries.copies_of.Goals as goal

pub loop-entry-preserved : goal.loop-entry-preserved
loop-entry-preserved c =
    copied_more c.args.entries.now c.loop-entry.copies.items c.push.new.self.items c.loop-entry.entry-index c.entry-item.result c.in_ok-copy.copy
    c.loop-entry.invariant c.loop-entry-test.true c.entry-item.is c.in_ok-copy.ensures c.in_ok-push.ensures.items
