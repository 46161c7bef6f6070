use Rattle.std.proofs.Common.{take}
use Rattle.base_slots.specs.inside.Indexing.{all_said, is_among_said, Removes}
use Rattle.base_slots.proofs.indexing.remove.Given as goal

abbrev pub invariant-loop-place : goal.invariant-loop-place
invariant-loop-place l = Removes l.order.listed (is_among_said (take l.place (all_said l.block))) l.id l.fn.index l.index
