use Rattle.std.proofs.Common.{◌≡◌, ◌-◌, ◌++◌, length}
use Rattle.source_spans.specs.Folding.{folded_of}
use Rattle.source_spans.specs.inside.Lines.{left_at}
use Rattle.source_spans.proofs.folding.folded.Given as goal

abbrev pub invariant-loop-start : goal.invariant-loop-start
invariant-loop-start l = l.text.items ++ left_at l.block l.joining l.start ≡ folded_of l.block

abbrev pub decreases-loop-start : goal.decreases-loop-start
decreases-loop-start l = length l.block - l.start
