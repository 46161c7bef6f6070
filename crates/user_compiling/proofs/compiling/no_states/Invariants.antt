use Rattle.std.proofs.Common.{◌≡◌, length}
use Rattle.user_compiling.proofs.compiling.no_states.Given as goal

abbrev pub invariant-loop-at : goal.invariant-loop-at
invariant-loop-at l = length l.all.items ≡ l._at
