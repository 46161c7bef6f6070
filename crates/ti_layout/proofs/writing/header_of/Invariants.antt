use Rattle.ti_layout.specs.Values.{entries_of}
use Rattle.ti_layout.proofs.Counting.{HeaderSoFar}
use Rattle.ti_layout.proofs.writing.header_of.Given as goal

abbrev pub invariant-loop-entry : goal.invariant-loop-entry
invariant-loop-entry l = HeaderSoFar l.fn.format (entries_of l.entries) l.names l.entry-index l.header
