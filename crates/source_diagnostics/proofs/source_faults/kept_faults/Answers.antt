use Rattle.std.proofs.Common.{◌≡◌, Err, List, ℕ, ap, map, sym, ◌∙◌}
use Rattle.std.proofs.lemmas.Result.{IfOk-weaker}
use Rattle.base_meaning.specs.Faults.{faults}
use Rattle.base_meaning.specs.Owner.{readings}
use Rattle.user_compiling.specs.Faults.{extended_faults, fault_seen, of_profile}
use Rattle.source_diagnostics.specs.SourceFaults.{user_faults}
use Rattle.source_diagnostics.proofs.SourceStates.{few_names, over_limit, those_states}
use Rattle.source_diagnostics.proofs.source_faults.kept_faults.Goals as goal

pub returns-in-Ok-clause-all : goal.returns-in-Ok-clause-all
returns-in-Ok-clause-all c =
    let texts = c.args.database.now in
    let found = c.in-Ok.ensures.all in
    found.2 ∙ (ap (extended_faults texts) (those_states texts found.0 found.1) ∙ sym (few_names texts c.in-Ok.ensures.few))

pub returns-in-Err-TooManyNames-clause-all : goal.returns-in-Err-TooManyNames-clause-all
returns-in-Err-TooManyNames-clause-all c =
    let texts = c.args.database.now in
    let there = c.database.result.now in
    let same : there ≡ texts = c.database.ensures ∙ c.in-Err-TooManyNames.ensures.same in
    let over = c.in-Err-TooManyNames.ensures.too_many c.in-Err-TooManyNames.field-0-0 (ap (λ x. Err x) c.in-Err-TooManyNames.field-0-is) in
    IfOk-weaker c.profile_faults.result (λ all. map fault_seen all.items ≡ map of_profile (faults (readings there)))
    (λ all. map fault_seen all.items ≡ user_faults texts)
    (λ all e. e ∙ (ap (λ (ts : List (List ℕ)). map of_profile (faults (readings ts))) same
    ∙ sym (over_limit texts c.in-Err-TooManyNames.field-0-0 over))) c.profile_faults.ensures.all
