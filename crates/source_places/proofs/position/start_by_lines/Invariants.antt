use Rattle.std.proofs.Common.{◌≡◌, ◌+◌, ◌-◌, ◌≤◌, drop, length}
use Rattle.source_places.specs.Position.{line_start}
use Rattle.source_places.proofs.position.start_by_lines.Given as goal

-- what is left of the lines begins so much later
abbrev pub invariant-loop-passed : goal.invariant-loop-passed
invariant-loop-passed l = record {
  within : l.start ≤ length l.text;
  left : l.start + line_start (drop l.start l.text) (l.line - l._passed) ≡ line_start l.text l.line;
}
