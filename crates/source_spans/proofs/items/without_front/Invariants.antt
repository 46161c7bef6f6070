use Rattle.std.proofs.Common.{◌≡◌}
use Rattle.std.specs.List.{slice_range}
use Rattle.ti_source.specs.Items.{without_front}
use Rattle.source_spans.specs.Parts.{part_of}
use Rattle.source_spans.proofs.items.without_front.Given as goal

abbrev pub invariant-loop-at : goal.invariant-loop-at
invariant-loop-at l = without_front (slice_range l.text l.at l.fn.part.end) ≡ without_front (part_of l.text l.fn.part)
