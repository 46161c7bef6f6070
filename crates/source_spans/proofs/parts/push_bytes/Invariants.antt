use Rattle.std.proofs.Common.{◌≡◌, ◌++◌}
use Rattle.std.specs.List.{slice_range}
use Rattle.ti_source.specs.Items.{bytes}
use Rattle.source_spans.proofs.parts.push_bytes.Given as goal

abbrev pub invariant-loop-at : goal.invariant-loop-at
invariant-loop-at l = l.bytes.items ≡ l.fn.bytes.items ++ bytes (slice_range l.text l.fn.part.start l.at)
