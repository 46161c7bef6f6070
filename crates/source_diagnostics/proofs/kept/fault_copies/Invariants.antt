use Rattle.std.proofs.Common.{◌≡◌, map, take}
use Rattle.user_compiling.specs.Faults.{fault_seen}
use Rattle.source_diagnostics.specs.Marking.{sought_of}
use Rattle.source_diagnostics.proofs.kept.fault_copies.Given as goal

-- the copies so far
abbrev pub invariant-loop-fault : goal.invariant-loop-fault
invariant-loop-fault l =
    map (λ fault. sought_of (fault_seen fault)) l.copies.items ≡ map (λ fault. sought_of (fault_seen fault)) (take l.fault-index l.faults)
