use Rattle.std.proofs.Common.{◌≡◌, map, drop}
use Rattle.std.specs.List.{list_any}
use Rattle.ti_source.specs.Code.{is_error}
use Rattle.ti_source.specs.Reading.{fault_of}
use Rattle.base_plan.proofs.settling.has_error.Given as goal

abbrev pub invariant-loop-fault : goal.invariant-loop-fault
invariant-loop-fault l = list_any (λ f. is_error f.code) (map fault_of (drop l.fault-index l.faults)) ≡ list_any (λ f. is_error f.code) (map fault_of l.faults)
