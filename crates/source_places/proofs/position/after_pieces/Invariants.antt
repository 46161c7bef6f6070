use Rattle.std.proofs.Common.{◌≡◌, ◌+◌, ◌-◌, ◌≤◌, length}
use Rattle.source_places.specs.Position.{line_start}
use Rattle.source_places.proofs.position.after_pieces.Given as goal

-- the line begins so much later in what is left
abbrev pub invariant-loop-rest : goal.invariant-loop-rest
invariant-loop-rest l = record {
  within : length l.rest ≤ length l.text;
  start : length l.text - length l.rest + line_start l.rest l.left ≡ line_start l.text l.line;
}

abbrev pub decreases-loop-rest : goal.decreases-loop-rest
decreases-loop-rest l = length l.rest
