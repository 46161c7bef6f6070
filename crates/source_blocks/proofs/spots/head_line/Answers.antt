use Rattle.std.proofs.Common.{arith}
use Rattle.source_blocks.proofs.spots.head_line.Goals as goal

pub returns-clause-count : goal.returns-clause-count
returns-clause-count c =
    let fit = c.held_blocks_fit.ensures c.args.document.now in
    record { few = fit.0; short = fit.1; first_line = omega (arith, c.first_line.ensures.bound) }
