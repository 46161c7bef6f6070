use Rattle.std.proofs.Common.{◌≡◌, ◌++◌, drop}
use Rattle.source_hints.specs.Merging.{following, leading}
use Rattle.source_hints.proofs.merging.push_leading.Given as goal

-- those so far and those of the rest are all, and what follows them is the same
abbrev pub invariant-loop-at : goal.invariant-loop-at
invariant-loop-at l = record {
  pushed : l.all.items ++ leading l.start (drop l.at l.hints) ≡ l.fn.all.items ++ leading l.start (drop l.from l.hints);
  next : following l.start (drop l.at l.hints) ≡ following l.start (drop l.from l.hints);
}
