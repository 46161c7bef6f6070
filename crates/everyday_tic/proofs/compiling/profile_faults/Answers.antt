use Rattle.std.proofs.Common.{◌∙◌, All, ap, length, map, subst, sym}
use Rattle.std.proofs.lemmas.Result.{IfOk-weaker}
use Rattle.base_meaning.specs.Faults.{fault_seen as profile_fault_seen}
use Rattle.user_compiling.specs.Faults.{of_profile}
use Rattle.user_compiling.specs.Report.{IsExtendedPlaced}
use Rattle.everyday_tic.proofs.Becoming.{profile_placed}
use Rattle.everyday_tic.proofs.compiling.profile_faults.Goals as goal

pub returns-clause-all : goal.returns-clause-all
returns-clause-all c =
    IfOk-weaker c.copy_faults.result _ _
    (λ all is. is ∙ ap (map of_profile) (ap (map profile_fault_seen) c.as_slice.ensures.value ∙ c.in_ok-faults.ensures.0)) c.copy_faults.ensures

pub returns-clause-placed : goal.returns-clause-placed
returns-clause-placed c =
    let n = length c.args.database.now.texts in
    IfOk-weaker c.copy_faults.result _ _
    (λ all is. subst (All (IsExtendedPlaced n)) (sym (is ∙ ap (map of_profile) (ap (map profile_fault_seen) c.as_slice.ensures.value)))
    (profile_placed n (map profile_fault_seen c.in_ok-faults.faults.items) c.in_ok-faults.ensures.1)) c.copy_faults.ensures
