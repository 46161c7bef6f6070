use Rattle.std.proofs.Common.{◌≡◌, ◌++◌, drop, map}
use Rattle.std.specs.List.{flat_map}
use Rattle.std.specs.Rc.{rc_slice_items}
use Rattle.base_meaning.specs.Faults.{fault_seen}
use Rattle.everyday_sources.specs.Used.{missing_name}
use Rattle.everyday_sources.proofs.used.missing_names.Given as goal

-- the names so far, and those of the faults that are left
abbrev pub invariant-loop-fault : goal.invariant-loop-fault
invariant-loop-fault l =
    map rc_slice_items l.names.items ++ flat_map missing_name (map fault_seen (drop l.fault-index l.faults)) ≡ flat_map missing_name (map fault_seen l.faults)
