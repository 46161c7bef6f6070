use Rattle.std.proofs.Common.{◌≡◌, map, drop, vec_len, vec_capacity}
use Rattle.base_meaning.specs.Edits.{change_of}
use Rattle.user_kept.proofs.EditRuns.{RunExtends}
use Rattle.user_kept.proofs.running.run_each.Given as goal

-- the edits before led to the list
abbrev pub invariant-loop-edit : goal.invariant-loop-edit
invariant-loop-edit l = record {
  count : vec_len l.outcomes ≡ l.edit-index;
  capacity : vec_capacity l.outcomes ≡ vec_capacity l.fn.outcomes;
  run : RunExtends (map change_of l.edits) l.outcomes.items l.database (map change_of (drop l.edit-index l.edits));
}
