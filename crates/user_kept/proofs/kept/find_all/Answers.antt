use Rattle.std.proofs.Common.{◌≡◌, ◌∙◌, Err, List, ap, length, map, subst, sym}
use Rattle.std.proofs.lemmas.List.{length-map}
use Rattle.std.proofs.lemmas.Slice.Zip.{AllZip-long}
use Rattle.user_values.specs.declared.fault.ValuesError.TheVariants.{TooManyNames}
use Rattle.user_compiling.specs.Entries.{AreStates, IsStateOf, state_seen}
use Rattle.user_compiling.specs.declared.compiled.Compiled.{Compiled}
use Rattle.user_kept.proofs.Keeping.{right_by}
use Rattle.user_kept.proofs.kept.find_all.Goals as goal

pub findings_of-requires : goal.findings_of-requires
findings_of-requires c =
    let texts = c.args.database.now in
    let compiled = c.in-Ok.compiled.items in
    record {
      as_many = ap length c.deref.ensures.value
          ∙ (sym (length-map compiled state_seen) ∙ AllZip-long (IsStateOf texts) texts (map state_seen compiled) c.in-Ok.ensures.states);
    }

pub returns-in_ok-findings-in-Ok-clause-right : goal.returns-in_ok-findings-in-Ok-clause-right
returns-in_ok-findings-in-Ok-clause-right c =
    let texts = c.args.database.now in
    let compiled = c.deref.result.now in
    let states : AreStates texts (map state_seen compiled) =
    subst (λ (cs : List Compiled). AreStates texts (map state_seen cs)) (sym c.deref.ensures.value) c.in-Ok.ensures.states in
    right_by texts (map state_seen compiled) c.in_ok-findings-in-Ok.findings.items states c.in_ok-findings-in-Ok.ensures.findings
    c.in_ok-findings-in-Ok.ensures.as_many

pub returns-in-Err-clause-too_many : goal.returns-in-Err-clause-too_many
returns-in-Err-clause-too_many c = λ at e.
    let same : c.in-Err.error ≡ TooManyNames at = cc in
    c.in-Err.ensures.too_many at (ap (λ x. Err x) same)
