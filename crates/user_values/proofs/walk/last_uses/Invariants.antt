use Rattle.std.proofs.Common.{take}
use Rattle.user_values.specs.inside.Walking.{AreLast}
use Rattle.user_values.proofs.walk.last_uses.Given as goal

abbrev pub invariant-loop-place : goal.invariant-loop-place
invariant-loop-place l = AreLast l.uses (take l.place l.order) l.last.items
