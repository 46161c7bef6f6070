use Rattle.std.proofs.Common.{◌≡◌, ◌++◌, map, drop}
use Rattle.base_meaning.specs.Faults.{fault_seen, faults, faults_after}
use Rattle.base_slots.specs.Slots.{blocks_of}
use Rattle.ti_base.proofs.faults.source_faults.Given as goal

-- what was added and what is to be added are the faults of all blocks
abbrev pub invariant-loop-at : goal.invariant-loop-at
invariant-loop-at l =
    map fault_seen l.faults.items ++ faults_after (blocks_of l.slots) l.at (drop l.at (blocks_of l.slots)) ≡ faults (blocks_of l.slots)
