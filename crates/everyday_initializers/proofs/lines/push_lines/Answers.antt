-- each step writes the line of its index
use Rattle.everyday_initializers.specs.inside.Lines.{described_seen, line_of}
use Rattle.everyday_initializers.proofs.InTurn.{one_more}
use Rattle.everyday_initializers.proofs.lines.push_lines.Goals as goal

pub loop-index-preserved : goal.loop-index-preserved
loop-index-preserved c = one_more (line_of (described_seen c.args.d.now) c.args.line) c.loop-index.index c.args.end c.loop-index.out.items
    c.push_line.new.out.items _ c.loop-index-test.true c.in_ok-push_line.ensures c.loop-index.invariant
