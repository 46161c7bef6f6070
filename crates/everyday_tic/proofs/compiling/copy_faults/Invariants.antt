use Rattle.std.proofs.Common.{◌≡◌, ◌++◌, drop, map}
use Rattle.base_meaning.specs.Faults.{fault_seen as profile_fault_seen}
use Rattle.user_compiling.specs.Faults.{fault_seen, of_profile}
use Rattle.everyday_tic.proofs.compiling.copy_faults.Given as goal

-- the faults so far, and those that are left
abbrev pub invariant-loop-fault : goal.invariant-loop-fault
invariant-loop-fault l =
    map fault_seen l.all.items ++ map of_profile (map profile_fault_seen (drop l.fault-index l.faults)) ≡ map of_profile (map profile_fault_seen l.faults)
