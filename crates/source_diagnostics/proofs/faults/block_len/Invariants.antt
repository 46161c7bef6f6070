use Rattle.std.proofs.Common.{◌≡◌, All, take}
use Rattle.user_compiling.specs.Faults.{block_of, fault_seen}
use Rattle.user_compiling.specs.declared.fault.ExtendedFault.{ExtendedFault}
use Rattle.source_diagnostics.proofs.faults.block_len.Given as goal

abbrev pub invariant-loop-at : goal.invariant-loop-at
invariant-loop-at l = All (λ (fault : ExtendedFault). block_of (fault_seen fault) ≡ l.block) (take l.at l.faults)
