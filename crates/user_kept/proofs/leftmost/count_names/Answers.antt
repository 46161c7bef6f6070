use Rattle.std.proofs.Common.{◌≡◌, ◌≤◌, ℕ, length, subst}
use Rattle.std.specs.Prelude.{IfOk, OnOk, IsErrOf}
use Rattle.user_values.specs.Limit.{name_count, name_limit, IsOverLimitAt}
use Rattle.user_values.specs.declared.fault.ValuesError.TheVariants.{TooManyNames}
use Rattle.ti_base.specs.RuledTexts.{RuledTexts}
use Rattle.ti_base.proofs.LeftmostTexts.{is_leftmost}
use Rattle.user_kept.proofs.leftmost.count_names.Goals as goal

pub returns-clause-count : goal.returns-clause-count
returns-clause-count c =
    let source = is_leftmost c.as_ruled.result.now c.args.database.now c.as_ruled.ensures.rule c.as_ruled.ensures.texts in
    subst (λ (s : RuledTexts). IfOk c.count_names.result (λ count. count ≡ name_count s.texts (length s.texts))) source c.count_names.ensures.count

pub returns-clause-few : goal.returns-clause-few
returns-clause-few c =
    let source = is_leftmost c.as_ruled.result.now c.args.database.now c.as_ruled.ensures.rule c.as_ruled.ensures.texts in
    subst (λ (s : RuledTexts). OnOk c.count_names.result (name_count s.texts (length s.texts) ≤ name_limit)) source c.count_names.ensures.few

pub returns-clause-too_many : goal.returns-clause-too_many
returns-clause-too_many c =
    let source = is_leftmost c.as_ruled.result.now c.args.database.now c.as_ruled.ensures.rule c.as_ruled.ensures.texts in
    subst (λ (s : RuledTexts). (at : ℕ) → IsErrOf c.count_names.result (TooManyNames at) → IsOverLimitAt s.texts at) source c.count_names.ensures.too_many
