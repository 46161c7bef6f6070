use Rattle.std.proofs.Common.{◌≡◌, ◌++◌, ◌≤◌, drop, length}
use Rattle.source_hints.specs.Merging.{merged}
use Rattle.source_hints.proofs.merging.merged.Given as goal

-- those so far and the rest of both lists are all
abbrev pub invariant-loop-at : goal.invariant-loop-at
invariant-loop-at l = record {
  all : l.all.items ++ merged (drop l.at l.hints) (drop l.from l.others) ≡ merged l.hints l.others;
  within : l.from ≤ length l.others;
}
