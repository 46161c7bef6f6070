use Rattle.std.proofs.Common.{◌+◌, ◌-◌, length}
use Rattle.ti_layout.specs.Values.{entries_of}
use Rattle.ti_layout.proofs.Fronts.{Merges}
use Rattle.ti_layout.proofs.merging.merge.Given as goal

abbrev pub invariant-loop-turn : goal.invariant-loop-turn
invariant-loop-turn l = Merges (entries_of l.first) (entries_of l.second) (entries_of l.merged.items) l.at_first l.at_second

abbrev pub decreases-loop-turn : goal.decreases-loop-turn
decreases-loop-turn l = (length l.first - l.at_first) + (length l.second - l.at_second)
