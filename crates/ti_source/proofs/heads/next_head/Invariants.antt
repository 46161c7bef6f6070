use Rattle.std.proofs.Common.{◌≡◌, length, drop, ◌+◌, ◌-◌, ◌≤◌}
use Rattle.ti_source.specs.inside.Cutting.{to_next_head}
use Rattle.ti_source.proofs.heads.next_head.Given as goal

abbrev pub invariant-loop-newline : goal.invariant-loop-newline
invariant-loop-newline l = record {
  within : l.at ≤ length l.text;
  so_far : length (to_next_head l.text) ≡ l.at + length (to_next_head (drop l.at l.text));
}

abbrev pub decreases-loop-newline : goal.decreases-loop-newline
decreases-loop-newline l = length l.text - l.at
