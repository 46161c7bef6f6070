use Rattle.std.proofs.Common.{◌≡◌, ◌++◌, ◌≤◌, drop, length, map}
use Rattle.source_remarks.specs.Hints.{hint_seen}
use Rattle.source_remarks.specs.Remarks.{remark_seen, with_hints}
use Rattle.source_remarks.proofs.remarks.with_hints.Given as goal

-- those so far and the rest of both lists are all
abbrev pub invariant-loop-at : goal.invariant-loop-at
invariant-loop-at l = record {
  all : map remark_seen l.all.items ++ with_hints (map remark_seen (drop l.at l.remarks)) (map hint_seen (drop l.from l.hints))
      ≡ with_hints (map remark_seen l.remarks) (map hint_seen l.hints);
  within : l.from ≤ length l.hints;
}
