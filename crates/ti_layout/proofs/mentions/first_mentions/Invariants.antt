use Rattle.ti_layout.specs.Values.{entries_of}
use Rattle.ti_layout.proofs.FirstMentions.{Gathers}
use Rattle.ti_layout.proofs.mentions.first_mentions.Given as goal

abbrev pub invariant-loop-position : goal.invariant-loop-position
invariant-loop-position l = Gathers (entries_of l.mentions) (entries_of l.entries.items) l.position-index
