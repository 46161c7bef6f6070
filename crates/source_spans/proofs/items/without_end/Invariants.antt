use Rattle.std.proofs.Common.{◌≡◌, ◌≤◌}
use Rattle.std.specs.List.{slice_range}
use Rattle.source_spans.specs.Subjects.{without_end}
use Rattle.source_spans.proofs.items.without_end.Given as goal

abbrev pub invariant-loop-at : goal.invariant-loop-at
invariant-loop-at l = record {
  so : without_end (slice_range l.text l.fn.part.start l.at) ≡ slice_range l.text l.fn.part.start l.end;
  order : l.fn.part.start ≤ l.end;
  within : l.end ≤ l.at;
}
