use Rattle.ti_layout.specs.Values.{entries_of}
use Rattle.ti_layout.proofs.WrittenSections.{HasOffsets}
use Rattle.ti_layout.proofs.writing.push_offsets.Given as goal

abbrev pub invariant-loop-entry : goal.invariant-loop-entry
invariant-loop-entry l = HasOffsets (entries_of l.entries) l.initial.image.items l.image.items l.entry-index l.written l.offset
