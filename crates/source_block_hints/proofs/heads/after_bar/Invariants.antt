use Rattle.std.proofs.Common.{◌≡◌, ◌+◌, length, None}
use Rattle.source_block_hints.specs.Heads.{after_bar}
use Rattle.source_block_hints.proofs.heads.after_bar.Given as goal

abbrev pub invariant-loop-placed : goal.invariant-loop-placed
invariant-loop-placed l = record {
  so : after_bar l.found l.at l.rest ≡ after_bar None 0 l.field;
  room : l.at + length l.rest ≡ length l.field;
}

abbrev pub decreases-loop-placed : goal.decreases-loop-placed
decreases-loop-placed l = length l.rest
