use Rattle.std.proofs.Common.{◌≡◌, ◌++◌, map, take}
use Rattle.base_meaning.specs.Faults.{fault_seen}
use Rattle.base_slots.specs.Settled.{fault_at}
use Rattle.ti_base.proofs.faults.add_kept.Given as goal

abbrev pub invariant-loop-fault : goal.invariant-loop-fault
invariant-loop-fault l = map fault_seen l.faults.items ≡ map fault_seen l.fn.faults.items ++ map (fault_at l.at) (take l.fault-index l.kept)
