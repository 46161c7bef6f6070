use Rattle.std.proofs.Common.{◌≡◌, ◌++◌, All, None, length, map}
use Rattle.user_compiling.specs.Faults.{fault_seen}
use Rattle.user_compiling.specs.Report.{IsExtendedPlaced}
use Rattle.source_diagnostics.specs.inside.Marked.{source_marks}
use Rattle.source_diagnostics.proofs.faults.marks_in.Given as goal

-- what is shown so far and what is shown for the rest is what is shown for all
abbrev pub invariant-loop-rest : goal.invariant-loop-rest
invariant-loop-rest l = record {
  shown : l.marks.items ++ source_marks l.database None (map fault_seen l.rest) ≡ source_marks l.database None (map fault_seen l.faults);
  placed : All (IsExtendedPlaced (length l.database)) (map fault_seen l.rest);
}

abbrev pub decreases-loop-rest : goal.decreases-loop-rest
decreases-loop-rest l = length l.rest
