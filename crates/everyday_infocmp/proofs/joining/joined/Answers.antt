-- each step looks at one byte
use Rattle.everyday_infocmp.specs.Joining.{joined}
use Rattle.everyday_infocmp.proofs.Breaks.{one_byte}
use Rattle.everyday_infocmp.proofs.joining.joined.Goals as goal

pub loop-at-preserved : goal.loop-at-preserved
loop-at-preserved c = one_byte c.args.text.now c.loop-at.at c.loop-at.out.items c.push_byte.new.out.items (joined c.args.text.now) c.loop-at-test.true
    c.in_ok-push_byte.ensures c.loop-at.invariant
