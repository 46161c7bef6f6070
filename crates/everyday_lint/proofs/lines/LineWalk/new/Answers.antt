use Rattle.std.proofs.Common.{arith, sym}
use Rattle.source_places.proofs.Places.{line_start-zero}
use Rattle.everyday_lint.proofs.lines.LineWalk.new.Goals as goal

pub invariant_of-result : goal.invariant_of-result
invariant_of-result c = (sym (line_start-zero c.args.text.now), omega arith, c.of.ensures)
