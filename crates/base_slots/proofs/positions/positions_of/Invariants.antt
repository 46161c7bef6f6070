use Rattle.std.proofs.Common.{take}
use Rattle.base_slots.specs.Positions.{ArePositions}
use Rattle.base_slots.proofs.positions.positions_of.Given as goal

abbrev pub invariant-loop-id : goal.invariant-loop-id
invariant-loop-id l = ArePositions l.order.listed (take l.id-index l.ids) l.positions.items
