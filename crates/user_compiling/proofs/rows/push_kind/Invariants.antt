use Rattle.std.proofs.Common.{◌≡◌, ◌++◌, take}
use Rattle.user_extension.specs.UserDefined.{rows_of}
use Rattle.user_values.specs.Tables.{entries_seen}
use Rattle.user_compiling.specs.inside.Kinds.{rows_of_kind}
use Rattle.user_compiling.proofs.rows.push_kind.Given as goal

abbrev pub invariant-loop-entry : goal.invariant-loop-entry
invariant-loop-entry l = rows_of l.rows.items ≡ rows_of l.initial.rows.items ++ rows_of_kind l.kind (entries_seen (take l.entry-index l.entries))
