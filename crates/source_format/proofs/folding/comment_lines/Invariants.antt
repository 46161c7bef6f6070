use Rattle.std.proofs.Common.{◌≡◌, ◌+◌, drop, map}
use Rattle.source_format.specs.Folds.{comment_lines}
use Rattle.source_format.proofs.folding.comment_lines.Given as goal

abbrev pub invariant-loop-at : goal.invariant-loop-at
invariant-loop-at l = comment_lines (map (λ line. line.now) l.lines) ≡ l.at + comment_lines (map (λ line. line.now) (drop l.at l.lines))
