use Rattle.ti_layout.specs.Values.{entries_of}
use Rattle.ti_layout.proofs.Counting.{AreNarrow}
use Rattle.ti_layout.proofs.writing.format_wanted.Given as goal

abbrev pub invariant-loop-entry : goal.invariant-loop-entry
invariant-loop-entry l = AreNarrow (entries_of l.entries) l.entry-index
