use Rattle.std.proofs.Common.{◌≡◌, ◌++◌, ◌≤◌, map, drop}
use Rattle.base_meaning.specs.Faults.{fault_seen as profile_fault_seen}
use Rattle.user_compiling.specs.Faults.{fault_seen}
use Rattle.user_compiling.specs.inside.Pairs.{replaced}
use Rattle.user_compiling.proofs.block_faults.replace.Given as goal

-- what was added and what is to be added are all
abbrev pub invariant-loop-fault : goal.invariant-loop-fault
invariant-loop-fault l = record {
  all : map fault_seen l.faults.items ++ replaced (map profile_fault_seen (drop l.fault-index l.profile)) (drop l.next l.codes)
      ≡ map fault_seen l.initial.faults.items ++ replaced (map profile_fault_seen l.profile) l.codes;
  few : l.next ≤ l.fault-index;
}
