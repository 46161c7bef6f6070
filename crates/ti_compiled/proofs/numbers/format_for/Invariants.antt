use Rattle.std.proofs.Common.{◌≡◌, ℕ, ◌<◌, ◌≤◌, ◌⊎◌, get_or}
use Rattle.ti_compiled.proofs.numbers.format_for.Given as goal

abbrev pub invariant-loop-value : goal.invariant-loop-value
invariant-loop-value l = (j : ℕ) → j < l.value-index → (get_or l.values j 0 ≤ 32767) ⊎ (get_or l.values j 0 ≡ 4294967295)
