use Rattle.ti_layout.specs.Values.{entries_of}
use Rattle.ti_layout.proofs.WrittenSections.{HasNumbers}
use Rattle.ti_layout.proofs.writing.push_numbers.Given as goal

abbrev pub invariant-loop-entry : goal.invariant-loop-entry
invariant-loop-entry l = HasNumbers l.format (entries_of l.entries) l.initial.image.items l.image.items l.entry-index l.written
