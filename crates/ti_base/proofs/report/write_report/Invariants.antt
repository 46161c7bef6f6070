use Rattle.std.proofs.Common.{◌≡◌, map, take}
use Rattle.std.specs.List.{flat_map}
use Rattle.base_meaning.specs.Faults.{fault_seen}
use Rattle.base_meaning.specs.Report.{report_line}
use Rattle.base_slots.specs.Slots.{slot_texts}
use Rattle.ti_base.proofs.report.write_report.Given as goal

abbrev pub invariant-loop-fault : goal.invariant-loop-fault
invariant-loop-fault l = l.out.items ≡ flat_map (report_line (slot_texts l.slots) l.first_line) (map fault_seen (take l.fault-index l.faults))
