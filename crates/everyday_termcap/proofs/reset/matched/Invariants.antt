use Rattle.std.proofs.Common.{◌≡◌, ◌≤◌, ◌+◌, length}
use Rattle.everyday_termcap.specs.Reset.{matched, matched_from}
use Rattle.everyday_termcap.proofs.reset.matched.Given as goal

-- it depends on what is left of both, and no more is counted than was passed
abbrev pub invariant-loop-rest : goal.invariant-loop-rest
invariant-loop-rest l = record {
  same : matched_from 0 l.used l.pending l.rest l.left ≡ matched l.part l.text;
  within : l.used + l.pending + length l.left ≤ length l.text;
}

abbrev pub decreases-loop-rest : goal.decreases-loop-rest
decreases-loop-rest l = length l.rest
