use Rattle.std.proofs.Common.{append_assoc, refl}
use Rattle.std.proofs.lemmas.List.{map-append}
use Rattle.base_meaning.specs.Faults.{fault_seen}
use Rattle.base_slots.specs.Settled.{fault_at}
use Rattle.base_plan.proofs.ItemLists.{map-take_item}
use Rattle.ti_base.proofs.faults.add_kept.Goals as goal

pub loop-fault-preserved : goal.loop-fault-preserved
loop-fault-preserved c =
    rw (
      c.in_ok-push.ensures.items,
      map-append fault_seen,
      c.loop-fault.invariant,
      map-take_item
          (fault_at c.args.at) c.args.kept.now c.loop-fault.fault-index c.fault-item.result c.loop-fault-test.true c.fault-item.is,
      c.in_ok-copy_detail.ensures,
      append_assoc,
    ) refl
