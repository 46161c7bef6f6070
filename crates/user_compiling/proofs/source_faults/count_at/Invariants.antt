use Rattle.std.proofs.Common.{◌≡◌, ◌+◌, map, drop}
use Rattle.base_meaning.specs.Faults.{fault_seen}
use Rattle.user_compiling.specs.inside.Pairs.{count_at}
use Rattle.user_compiling.proofs.source_faults.count_at.Given as goal

abbrev pub invariant-loop-fault : goal.invariant-loop-fault
invariant-loop-fault l = record {
  counted : l.count ≡ l.fault-index;
  rest : count_at l.at (map fault_seen l.faults) ≡ l.fault-index + count_at l.at (map fault_seen (drop l.fault-index l.faults));
}
