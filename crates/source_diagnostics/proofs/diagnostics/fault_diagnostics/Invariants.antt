use Rattle.std.proofs.Common.{◌≡◌, ◌++◌, None, drop, map}
use Rattle.user_compiling.specs.Faults.{fault_seen}
use Rattle.source_diagnostics.specs.SourceFaults.{faults_by}
use Rattle.source_diagnostics.specs.Diagnostics.{diagnostic_seen, fault_diagnostics}
use Rattle.source_diagnostics.specs.inside.Marked.{marked_diagnostics}
use Rattle.source_diagnostics.proofs.diagnostics.fault_diagnostics.Given as goal

-- the diagnostics so far and those of the rest are those of all
abbrev pub invariant-loop-at : goal.invariant-loop-at
invariant-loop-at l =
    map diagnostic_seen l.all.items ++ marked_diagnostics l.fn.capabilities l.database l.first (drop l.at l.marks) (map fault_seen (drop l.at l.faults))
    ≡ fault_diagnostics l.fn.capabilities l.database l.first None (faults_by l.fn.capabilities l.database)
