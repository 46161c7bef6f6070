use Rattle.std.proofs.Common.{◌≡◌, map}
use Rattle.base_meaning.specs.Faults.{fault_seen as profile_fault_seen}
use Rattle.user_compiling.specs.Faults.{fault_seen, of_profile}
use Rattle.source_diagnostics.proofs.source_faults.extended.Given as goal

abbrev pub invariant-loop-fault : goal.invariant-loop-fault
invariant-loop-fault l = map fault_seen l.all.items ≡ map of_profile (map profile_fault_seen l.yielded)
