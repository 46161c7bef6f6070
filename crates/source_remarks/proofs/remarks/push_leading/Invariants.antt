use Rattle.std.proofs.Common.{◌≡◌, ◌++◌, drop, map}
use Rattle.source_remarks.specs.Hints.{hint_seen}
use Rattle.source_remarks.specs.Remarks.{following, leading, remark_seen, seen_hint}
use Rattle.source_remarks.proofs.remarks.push_leading.Given as goal

-- those so far and those of the rest are all, and what follows them is the same
abbrev pub invariant-loop-at : goal.invariant-loop-at
invariant-loop-at l = record {
  pushed : map remark_seen l.all.items ++ map seen_hint (leading l.place (map hint_seen (drop l.at l.hints)))
      ≡ map remark_seen l.fn.all.items ++ map seen_hint (leading l.place (map hint_seen (drop l.from l.hints)));
  next : following l.place (map hint_seen (drop l.at l.hints)) ≡ following l.place (map hint_seen (drop l.from l.hints));
}
