use Rattle.std.proofs.Common.{◌≡◌, map, drop}
use Rattle.std.specs.List.{list_any}
use Rattle.ti_source.specs.Reading.{fault_of}
use Rattle.user_items.specs.Laws.{is_local_warning}
use Rattle.user_items.proofs.known.has_user_warning.Given as goal

abbrev pub invariant-loop-fault : goal.invariant-loop-fault
invariant-loop-fault l = list_any is_local_warning (map fault_of (drop l.fault-index l.faults)) ≡ list_any is_local_warning (map fault_of l.faults)
