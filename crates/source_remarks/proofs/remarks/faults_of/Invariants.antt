use Rattle.std.proofs.Common.{◌≡◌, map, take}
use Rattle.source_diagnostics.specs.Diagnostics.{diagnostic_seen}
use Rattle.source_remarks.specs.Remarks.{remark_seen, seen_fault}
use Rattle.source_remarks.proofs.remarks.faults_of.Given as goal

abbrev pub invariant-loop-fault : goal.invariant-loop-fault
invariant-loop-fault l = map remark_seen l.all.items ≡ map seen_fault (map diagnostic_seen (take l.fault-index l.faults))
