use Rattle.std.proofs.Common.{◌≡◌, ◌++◌, map, take}
use Rattle.source_remarks.specs.Hints.{hint_seen, shown_after}
use Rattle.source_remarks.proofs.sources.push_marks.Given as goal

abbrev pub invariant-loop-mark : goal.invariant-loop-mark
invariant-loop-mark l =
    map hint_seen l.all.items ≡ map hint_seen l.fn.all.items ++ map (shown_after l.lines l.text) (take l.mark-index l.marks)
