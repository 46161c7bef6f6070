use Rattle.std.proofs.Common.{◌≡◌, map, drop, vec_len, vec_capacity}
use Rattle.base_meaning.specs.Edits.{change_of}
use Rattle.base_slots.specs.Slots.{slot_texts}
use Rattle.ti_base.specs.inside.Database.{AreRead, HaveRule}
use Rattle.ti_base.proofs.Running.{RunExtends}
use Rattle.ti_base.proofs.growing.change_all.Given as goal

-- the edits before led to the list
abbrev pub invariant-loop-edit : goal.invariant-loop-edit
invariant-loop-edit l = record {
  count : vec_len l.outcomes ≡ l.edit-index;
  capacity : vec_capacity l.outcomes ≡ vec_capacity l.fn.outcomes;
  read : AreRead l.slots;
  ruled : HaveRule l.rule l.slots;
  run : RunExtends (map change_of l.edits) l.outcomes.items (slot_texts l.slots) (map change_of (drop l.edit-index l.edits));
}
