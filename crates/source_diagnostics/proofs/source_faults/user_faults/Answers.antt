use Rattle.std.proofs.Common.{◌≡◌, Err, ap, length, map, sym, ◌∙◌}
use Rattle.std.proofs.lemmas.List.{length-map}
use Rattle.std.proofs.lemmas.Result.{IfOk-weaker}
use Rattle.std.proofs.lemmas.Slice.Zip.{AllZip-long}
use Rattle.base_meaning.specs.Faults.{faults}
use Rattle.base_meaning.specs.Owner.{readings}
use Rattle.user_compiling.specs.Entries.{IsStateOf, state_seen}
use Rattle.user_compiling.specs.Faults.{extended_faults, fault_seen, of_profile}
use Rattle.source_diagnostics.specs.SourceFaults.{user_faults}
use Rattle.source_diagnostics.proofs.SourceStates.{few_names, over_limit, those_states}
use Rattle.source_diagnostics.proofs.source_faults.user_faults.Goals as goal

pub faults-requires : goal.faults-requires
faults-requires c =
    let texts = c.args.database.now in
    let compiled = c.in-Ok.compiled.items in
    record {
      as_many = ap length c.deref.ensures.value
          ∙ (sym (length-map compiled state_seen) ∙ AllZip-long (IsStateOf texts) texts (map state_seen compiled) c.in-Ok.ensures.states);
    }

pub returns-in-Ok-clause-all : goal.returns-in-Ok-clause-all
returns-in-Ok-clause-all c =
    let texts = c.args.database.now in
    let compiled = c.in-Ok.compiled.items in
    let states = ap (map state_seen) c.deref.ensures.value ∙ those_states texts (map state_seen compiled) c.in-Ok.ensures.states in
    IfOk-weaker c.faults.result (λ all. map fault_seen all.items ≡ extended_faults texts (map state_seen c.deref.result.now))
    (λ all. map fault_seen all.items ≡ user_faults texts)
    (λ all e. e ∙ (ap (extended_faults texts) states ∙ sym (few_names texts c.in-Ok.ensures.few))) c.faults.ensures.all

pub returns-in-Err-TooManyNames-clause-all : goal.returns-in-Err-TooManyNames-clause-all
returns-in-Err-TooManyNames-clause-all c =
    let texts = c.args.database.now in
    let over = c.in-Err-TooManyNames.ensures.too_many c.in-Err-TooManyNames.field-0-0 (ap (λ x. Err x) c.in-Err-TooManyNames.field-0-is) in
    IfOk-weaker c.profile_faults.result (λ all. map fault_seen all.items ≡ map of_profile (faults (readings texts)))
    (λ all. map fault_seen all.items ≡ user_faults texts)
    (λ all e. e ∙ sym (over_limit texts c.in-Err-TooManyNames.field-0-0 over)) c.profile_faults.ensures.all
