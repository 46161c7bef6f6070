use Rattle.std.proofs.Common.{◌≡◌, ◌++◌}
use Rattle.source_spans.specs.inside.Lines.{range_at}
use Rattle.source_spans.proofs.folding.push_range.Given as goal

abbrev pub invariant-loop-at : goal.invariant-loop-at
invariant-loop-at l = l.text.items ≡ l.fn.text.items ++ range_at l.block l.start l.at
