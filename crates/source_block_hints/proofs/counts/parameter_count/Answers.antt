use Rattle.std.proofs.Common.{arith}
use Rattle.source_block_hints.proofs.Counting.{past}
use Rattle.source_block_hints.proofs.counts.parameter_count.Goals as goal

pub returns-else-index-lt-TEXT_COUNT : goal.returns-else-index-lt-TEXT_COUNT
returns-else-index-lt-TEXT_COUNT c = past c.args.index (let over = c.if-index-lt-TEXT_COUNT.false in omega (arith, over))
