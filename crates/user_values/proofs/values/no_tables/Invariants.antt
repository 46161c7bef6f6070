use Rattle.std.proofs.Common.{◌≡◌, length}
use Rattle.user_values.proofs.values.no_tables.Given as goal

abbrev pub invariant-loop-at : goal.invariant-loop-at
invariant-loop-at l = length l.tables.items ≡ l._at
