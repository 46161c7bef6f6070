use Rattle.std.proofs.Common.{length}
use Rattle.ti_source.specs.Reading.{reading_of}
use Rattle.ti_source.proofs.ReadLemmas.{AddsSoFar}
use Rattle.ti_source.proofs.parsing.read_items.Given as goal

abbrev pub invariant-loop-room : goal.invariant-loop-room
invariant-loop-room l = AddsSoFar l.initial.source (reading_of l.initial.parsed) l.ordinal l.source (reading_of l.parsed)

abbrev pub decreases-loop-room : goal.decreases-loop-room
decreases-loop-room l = length l.source
