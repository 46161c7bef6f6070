use Rattle.std.proofs.Common.{take}
use Rattle.base_slots.specs.inside.Indexing.{all_said, is_among_said, Forgets}
use Rattle.base_slots.proofs.indexing.forget.Given as goal

abbrev pub invariant-loop-place : goal.invariant-loop-place
invariant-loop-place l = Forgets (is_among_said (take l.place (all_said l.block))) l.fn.index l.index
