use Rattle.std.proofs.Common.{refl}
use Rattle.std.proofs.lemmas.List.{map-append}
use Rattle.base_slots.specs.Settled.{fault_at}
use Rattle.base_plan.proofs.faults.add_use_fault.Goals as goal

pub used_table-requires : goal.used_table-requires
used_table-requires g c = (c.requires.0, rw c.as_slice.ensures.value c.requires.1)

pub returns : goal.returns
returns g c =
    let is = rw c.as_slice.ensures.value at c.in-Err.ensures.fault in
    record {
      added = rw (← is, c.in_ok-push.ensures.items, map-append (fault_at g.at) c.args.faults.now.items, c.in_ok-clone.ensures.cases) refl;
      found = rw (← is) refl;
    }
