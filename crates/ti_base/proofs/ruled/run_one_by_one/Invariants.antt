use Rattle.std.proofs.Common.{◌≡◌, map, drop, vec_len, vec_capacity}
use Rattle.base_meaning.specs.Edits.{change_of}
use Rattle.ti_base.proofs.Running.{RunExtends}
use Rattle.ti_base.proofs.ruled.run_one_by_one.Given as goal

-- the edits before led to the list
abbrev pub invariant-loop-edit : goal.invariant-loop-edit
invariant-loop-edit l = record {
  count : vec_len l.outcomes ≡ l.edit-index;
  capacity : vec_capacity l.outcomes ≡ vec_capacity l.fn.outcomes;
  rule : l.database.rule ≡ l.fn.rule;
  run : RunExtends (map change_of l.edits) l.outcomes.items l.database.texts (map change_of (drop l.edit-index l.edits));
}
