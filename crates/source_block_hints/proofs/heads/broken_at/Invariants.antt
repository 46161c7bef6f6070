use Rattle.std.proofs.Common.{◌≡◌, ◌+◌, length}
use Rattle.source_block_hints.specs.Heads.{after_break, broken_at}
use Rattle.source_block_hints.proofs.heads.broken_at.Given as goal

abbrev pub invariant-loop-placed : goal.invariant-loop-placed
invariant-loop-placed l = record {
  so : after_break l.last l.at l.rest ≡ broken_at l.field;
  room : l.at + length l.rest ≡ length l.field;
}

abbrev pub decreases-loop-placed : goal.decreases-loop-placed
decreases-loop-placed l = length l.rest
