use Rattle.std.proofs.Common.{◌≡◌, ◌≤◌, ◌<◌, ℕ, pos, map, get_or, length}
use Rattle.ti_param.specs.Meaning.{argument_of, number}
use Rattle.ti_c.specs.Expanding.{argument_at}
use Rattle.ti_c.proofs.expanding.give_arguments.Given as goal

-- the first are those given, and the others are the number 0
abbrev pub invariant-loop-place : goal.invariant-loop-place
invariant-loop-place l = record {
  nine : length l.values ≡ 9;
  given : (at : ℕ) → at < l.place → get_or (map argument_of l.values) at (number (pos 0)) ≡ argument_at l.params at;
  others : (at : ℕ) → l.place ≤ at → at < 9 → get_or (map argument_of l.values) at (number (pos 0)) ≡ number (pos 0);
}
