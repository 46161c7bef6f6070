use Rattle.std.proofs.Common.{take}
use Rattle.base_slots.specs.inside.Indexing.{all_said, is_among_said, HasRoomAt, IsGrown}
use Rattle.base_slots.proofs.indexing.reserve.Given as goal

abbrev pub invariant-loop-place : goal.invariant-loop-place
invariant-loop-place l = record { grown : IsGrown l.fn.index l.index; room : HasRoomAt (is_among_said (take l.place (all_said l.block))) l.index }
