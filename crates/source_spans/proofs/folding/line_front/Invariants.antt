use Rattle.source_spans.proofs.Lines.{FrontAt}
use Rattle.source_spans.proofs.folding.line_front.Given as goal

abbrev pub invariant-loop-at : goal.invariant-loop-at
invariant-loop-at l = FrontAt l.block l.start l.end l.at
