use Rattle.std.proofs.Common.{◌≡◌, ◌++◌, drop, map}
use Rattle.source_remarks.specs.Hints.{hint_seen}
use Rattle.source_remarks.specs.Remarks.{remark_seen, seen_hint}
use Rattle.source_remarks.proofs.remarks.push_hints.Given as goal

-- those so far and the rest are all
abbrev pub invariant-loop-at : goal.invariant-loop-at
invariant-loop-at l =
    map remark_seen l.all.items ++ map seen_hint (map hint_seen (drop l.at l.hints))
    ≡ map remark_seen l.fn.all.items ++ map seen_hint (map hint_seen (drop l.from l.hints))
