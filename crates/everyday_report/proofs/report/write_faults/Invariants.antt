use Rattle.std.proofs.Common.{◌≡◌, ◌++◌, drop, map}
use Rattle.user_compiling.specs.Faults.{fault_seen}
use Rattle.everyday_report.specs.Report.{fault_lines}
use Rattle.everyday_report.proofs.Writing.{lines_left}
use Rattle.everyday_report.proofs.report.write_faults.Given as goal

-- what was appended, and the lines that are left
abbrev pub invariant-loop-fault : goal.invariant-loop-fault
invariant-loop-fault l =
    l.out.items ++ lines_left fault_seen l.file l.database.texts l.first_line l.count l.places (drop l.fault-index l.faults)
    ≡ l.initial.out.items ++ fault_lines l.file l.database.texts l.first_line l.count (map fault_seen l.faults)
