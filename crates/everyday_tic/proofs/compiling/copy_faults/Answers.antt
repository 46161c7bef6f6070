use Rattle.std.proofs.Common.{◌≡◌, ◌++◌, ◌∷◌, ◌∙◌, [], ap, arith, map}
use Rattle.std.proofs.lemmas.List.{map-append}
use Rattle.base_meaning.specs.Faults.{fault_seen as profile_fault_seen}
use Rattle.user_compiling.specs.Faults.{ExtendedSourceFault, fault_seen, of_profile}
use Rattle.everyday_tic.proofs.Becoming.{all_appended, one_appended}
use Rattle.everyday_tic.proofs.compiling.copy_faults.Goals as goal

pub loop-fault-preserved : goal.loop-fault-preserved
loop-fault-preserved c =
    let old = c.loop-fault.all.items in
    let pushed : map fault_seen c.push.new.self.items ≡ map fault_seen old ++ of_profile (profile_fault_seen c.fault-item.result) ∷ [] =
    ap (map fault_seen) c.in_ok-push.ensures.items ∙ map-append fault_seen old (c.in_ok-copy.copy ∷ [])
    ∙ ap (λ (x : ExtendedSourceFault). map fault_seen old ++ x ∷ []) c.in_ok-copy.ensures in
    one_appended profile_fault_seen of_profile c.args.faults.now c.loop-fault.fault-index c.fault-item.result (map fault_seen old)
    (map fault_seen c.push.new.self.items) _ (omega arith) c.fault-item.is pushed c.loop-fault.invariant

pub returns : goal.returns
returns c =
    all_appended profile_fault_seen of_profile c.args.faults.now c.loop-fault.fault-index (map fault_seen c.loop-fault.all.items) _ (omega arith)
    c.loop-fault.invariant
