use Rattle.std.proofs.Common.{◌≡◌, ◌++◌, map, take}
use Rattle.ti_source.specs.Reading.{fault_of}
use Rattle.base_meaning.specs.Faults.{local_faults}
use Rattle.base_slots.specs.Settled.{fault_at}
use Rattle.base_plan.proofs.faults.add_locals.Given as goal

abbrev pub ghost-add_local : goal.ghost-add_local
ghost-add_local g a = g.at

abbrev pub invariant-loop-local : goal.invariant-loop-local
invariant-loop-local g l =
    map (fault_at g.at) l.faults.items ≡ map (fault_at g.at) l.fn.faults.items ++ local_faults l.of_header g.at (map fault_of (take l.local-index l.locals))
