use Rattle.std.proofs.Common.{◌≡◌, take}
use Rattle.source_diagnostics.specs.inside.Kept.{sought_in}
use Rattle.source_diagnostics.proofs.kept.are_same.Given as goal

abbrev pub invariant-loop-at : goal.invariant-loop-at
invariant-loop-at l = sought_in (take l.at l.some) ≡ sought_in (take l.at l.others)
