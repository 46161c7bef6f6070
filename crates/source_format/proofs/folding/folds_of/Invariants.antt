use Rattle.std.proofs.Common.{◌≡◌, ◌++◌, drop, false, map}
use Rattle.source_format.specs.Folds.{folds_from}
use Rattle.source_format.proofs.folding.folds_of.Given as goal

abbrev pub invariant-loop-at : goal.invariant-loop-at
invariant-loop-at l = l.folds.items ++ folds_from l.at l.after_comment (map (λ line. line.now) (drop l.at l.lines.items))
    ≡ folds_from 0 false (map (λ line. line.now) l.lines.items)
