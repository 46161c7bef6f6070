use Rattle.ti_layout.specs.Values.{entries_of}
use Rattle.ti_layout.proofs.WrittenSections.{HasFlags}
use Rattle.ti_layout.proofs.writing.push_flags.Given as goal

abbrev pub invariant-loop-entry : goal.invariant-loop-entry
invariant-loop-entry l = HasFlags (entries_of l.entries) l.initial.image.items l.image.items l.entry-index l.written
