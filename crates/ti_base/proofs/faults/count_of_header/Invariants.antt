use Rattle.std.proofs.Common.{◌≡◌, ◌≤◌, true, filter, length, map, take}
use Rattle.ti_source.specs.Reading.{fault_of}
use Rattle.base_meaning.specs.Faults.{is_kept}
use Rattle.ti_base.proofs.faults.count_of_header.Given as goal

abbrev pub invariant-loop-local : goal.invariant-loop-local
invariant-loop-local l = (l.count ≡ length (filter (is_kept true) (map fault_of (take l.local-index l.locals)))) × (l.count ≤ l.local-index)
