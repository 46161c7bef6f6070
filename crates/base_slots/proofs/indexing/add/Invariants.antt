use Rattle.std.proofs.Common.{take}
use Rattle.base_slots.specs.inside.Indexing.{all_said, is_among_said, AddsId}
use Rattle.base_slots.proofs.indexing.add.Given as goal

abbrev pub invariant-loop-place : goal.invariant-loop-place
invariant-loop-place l = AddsId l.order.listed (is_among_said (take l.place (all_said l.block))) l.id l.fn.index l.index
