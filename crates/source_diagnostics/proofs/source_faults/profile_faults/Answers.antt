use Rattle.std.proofs.Common.{◌≡◌, All, length, map, subst, sym}
use Rattle.std.proofs.lemmas.List.Elements.{All-map}
use Rattle.std.proofs.lemmas.Result.{IfOk-weaker}
use Rattle.base_meaning.specs.Faults.{fault_seen as profile_fault_seen}
use Rattle.user_compiling.specs.Faults.{fault_seen, of_profile}
use Rattle.user_compiling.specs.Report.{IsExtendedPlaced}
use Rattle.source_diagnostics.proofs.source_faults.profile_faults.Goals as goal

pub returns-clause-placed : goal.returns-clause-placed
returns-clause-placed c =
    let n = length c.args.database.now in
    let profile = map profile_fault_seen c.in_ok-profile.profile.items in
    IfOk-weaker c.extended.result (λ all. map fault_seen all.items ≡ map of_profile profile) (λ all. All (IsExtendedPlaced n) (map fault_seen all.items))
    (λ all e. subst (All (IsExtendedPlaced n)) (sym e) (All-map (IsExtendedPlaced n) of_profile profile c.in_ok-profile.ensures.placed)) c.extended.ensures
