use Rattle.std.proofs.Common.{◌≡◌, map, take}
use Rattle.std.specs.List.{flat_map}
use Rattle.user_compiling.specs.Faults.{fault_seen}
use Rattle.user_compiling.specs.Report.{extended_line}
use Rattle.user_compiling.proofs.report.report_of.Given as goal

abbrev pub invariant-loop-fault : goal.invariant-loop-fault
invariant-loop-fault l = l.out.items ≡ flat_map (extended_line l.database.texts l.first_line) (map fault_seen (take l.fault-index l.faults))
