use Rattle.std.proofs.Common.{◌≤◌, ℕ, length, map, subst}
use Rattle.std.specs.Prelude.{IfOk, OnOk, IsErrOf}
use Rattle.user_values.specs.Limit.{name_count, name_limit, IsOverLimitAt}
use Rattle.user_values.specs.declared.fault.ValuesError.TheVariants.{TooManyNames}
use Rattle.user_compiling.specs.Entries.{AreStatesBy, state_seen}
use Rattle.ti_base.specs.RuledTexts.{RuledTexts}
use Rattle.ti_base.proofs.LeftmostTexts.{is_leftmost}
use Rattle.user_compiling.proofs.leftmost.compile.Goals as goal

pub returns-clause-states : goal.returns-clause-states
returns-clause-states c =
    let source = is_leftmost c.as_ruled.result.now c.args.database.now c.as_ruled.ensures.rule c.as_ruled.ensures.texts in
    subst (λ (s : RuledTexts). IfOk c.compile.result (λ all. AreStatesBy s.rule s.texts (map state_seen all.items))) source c.compile.ensures.states

pub returns-clause-few : goal.returns-clause-few
returns-clause-few c =
    let source = is_leftmost c.as_ruled.result.now c.args.database.now c.as_ruled.ensures.rule c.as_ruled.ensures.texts in
    subst (λ (s : RuledTexts). OnOk c.compile.result (name_count s.texts (length s.texts) ≤ name_limit)) source c.compile.ensures.few

pub returns-clause-too_many : goal.returns-clause-too_many
returns-clause-too_many c =
    let source = is_leftmost c.as_ruled.result.now c.args.database.now c.as_ruled.ensures.rule c.as_ruled.ensures.texts in
    subst (λ (s : RuledTexts). (at : ℕ) → IsErrOf c.compile.result (TooManyNames at) → IsOverLimitAt s.texts at) source c.compile.ensures.too_many
