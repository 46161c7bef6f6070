use Rattle.std.proofs.Common.{take}
use Rattle.std.specs.Prelude.{All}
use Rattle.user_changing.specs.Changes.{CanBeMade, edits_of}
use Rattle.user_changing.proofs.change.first_fault.Given as goal

-- those so far can be made
abbrev pub invariant-loop-at : goal.invariant-loop-at
invariant-loop-at l = All CanBeMade (take l.at (edits_of l.changes))
