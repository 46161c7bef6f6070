use Rattle.std.proofs.Common.{◌≡◌, ◌++◌, drop}
use Rattle.source_spans.specs.Faulty.{search_of}
use Rattle.source_diagnostics.specs.inside.Kept.{block_marks, sought_in}
use Rattle.source_diagnostics.proofs.kept.block_marks.Given as goal

-- what is shown so far and what is shown for the rest is what is shown for all
abbrev pub invariant-loop-fault : goal.invariant-loop-fault
invariant-loop-fault l = record {
  shown : l.marks.items ++ block_marks l.text l.finder (sought_in (drop l.fault-index l.faults))
      ≡ block_marks l.text (search_of l.text) (sought_in l.faults);
  walk : l.walk ≡ l.text;
}
