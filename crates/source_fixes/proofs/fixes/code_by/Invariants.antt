use Rattle.std.proofs.Common.{◌≡◌, drop, map}
use Rattle.ti_source.specs.Reading.{fault_of}
use Rattle.source_fixes.specs.Fixes.{code_by}
use Rattle.source_fixes.proofs.fixes.code_by.Given as goal

abbrev pub invariant-loop-fault : goal.invariant-loop-fault
invariant-loop-fault l = code_by l.fn.capabilities l.ordinal (map fault_of (drop l.fault-index l.faults)) ≡ code_by l.fn.capabilities l.ordinal (map fault_of l.faults)
