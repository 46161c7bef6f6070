use Rattle.std.proofs.Common.{◌≡◌, drop, map}
use Rattle.ti_source.specs.Reading.{fault_of}
use Rattle.source_spans.specs.Faulty.{first_and_rest, is_fault}
use Rattle.source_spans.proofs.faulty.next_fault.Given as goal

-- the next of the rest is the next of all
abbrev pub invariant-loop-at : goal.invariant-loop-at
invariant-loop-at l =
    first_and_rest (is_fault l.line l.code l.name) (map fault_of (drop l.at l.faults))
    ≡ first_and_rest (is_fault l.line l.code l.name) (map fault_of (drop l.from l.faults))
