use Rattle.std.proofs.Common.{◌≡◌, ◌+◌, drop}
use Rattle.source_places.specs.Position.{column_offset}
use Rattle.source_places.proofs.position.column_offset.Given as goal

-- what is left of the columns comes so much later
abbrev pub invariant-loop-at : goal.invariant-loop-at
invariant-loop-at l = l.at + column_offset (drop l.at l.line) l.left ≡ column_offset l.line l.column
