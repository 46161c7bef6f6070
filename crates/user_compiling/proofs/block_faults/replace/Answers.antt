use Rattle.std.proofs.Common.{◌+◌, ◌++◌, ◌∙◌, ap, sym, map, drop, arith}
use Rattle.base_meaning.specs.Faults.{fault_seen as profile_fault_seen}
use Rattle.user_compiling.specs.Faults.{fault_seen}
use Rattle.user_compiling.specs.inside.Pairs.{replaced}
use Rattle.user_compiling.proofs.Pairs.{map-drop_item}
use Rattle.user_compiling.proofs.block_faults.replace.Goals as goal

pub loop-fault-preserved : goal.loop-fault-preserved
loop-fault-preserved c =
    let profile = c.args.profile.now in
    let i = c.loop-fault.fault-index in
    record {
      all = c.in_ok-replace_one.ensures.added (map profile_fault_seen (drop (i + 1) profile))
          ∙ ap (λ fs. map fault_seen c.loop-fault.faults.items ++ replaced fs (drop c.loop-fault.next c.args.codes.now))
          (sym (map-drop_item profile_fault_seen profile i c.fault-item.result c.loop-fault-test.true c.fault-item.is))
          ∙ c.loop-fault.invariant.all;
      few = omega (arith, c.replace_one.ensures.few, c.loop-fault.invariant.few);
    }
