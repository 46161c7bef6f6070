use Rattle.lsp_messages.proofs.Decoding.{repairs_told}
use Rattle.lsp_messages.proofs.bodies.repaired.Goals as goal

pub loop-at-preserved : goal.loop-at-preserved
loop-at-preserved c =
    repairs_told c.args.text.now c.loop-at.all.items c.push.new.self.items c.loop-at.at c.loop-at.kept c.loop-at.exchanged c.kept_next-kept_now.result
    c.exchanged_next-exchanged.result c.byte_for.result
    c.loop-at-test.true c.loop-at.invariant c.byte_for.ensures c.kept_next-kept_now.ensures c.exchanged_next-exchanged.ensures c.in_ok-push.ensures.items
