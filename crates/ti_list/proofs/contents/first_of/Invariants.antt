-- none of the entries before has the capability
use Rattle.std.proofs.Common.{◌≡◌, map, drop}
use Rattle.ti_layout.specs.View.{entry_seen}
use Rattle.ti_list.specs.RelativeSource.{first_of}
use Rattle.ti_list.proofs.contents.first_of.Given as goal

abbrev pub invariant-loop-other : goal.invariant-loop-other
invariant-loop-other l = first_of (map (λ o. entry_seen o) l.others) l.cap ≡ first_of (map (λ o. entry_seen o) (drop l.other-index l.others)) l.cap
