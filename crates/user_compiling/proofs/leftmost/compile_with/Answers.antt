use Rattle.std.proofs.Common.{◌≡◌, ◌<◌, ℕ, List, Some, All, length, slice_get, sym, subst}
use Rattle.std.specs.Prelude.{IfOk}
use Rattle.ti_source.specs.Cutting.{OneBlock}
use Rattle.user_values.specs.Tables.{IsUserTableBy, said_at}
use Rattle.user_compiling.specs.Entries.{IsStateBy, state_seen}
use Rattle.ti_base.specs.RuledTexts.{RuledTexts}
use Rattle.ti_base.proofs.LeftmostTexts.{is_leftmost}
use Rattle.user_compiling.proofs.leftmost.compile_with.Goals as goal

pub compile_with-requires-clause-within : goal.compile_with-requires-clause-within
compile_with-requires-clause-within c =
    let source = is_leftmost c.as_ruled.result.now c.args.database.now c.as_ruled.ensures.rule c.as_ruled.ensures.texts in
    subst (λ (s : RuledTexts). c.args.at < length s.texts) (sym source) c.requires.within

pub compile_with-requires-clause-one : goal.compile_with-requires-clause-one
compile_with-requires-clause-one c =
    let source = is_leftmost c.as_ruled.result.now c.args.database.now c.as_ruled.ensures.rule c.as_ruled.ensures.texts in
    subst (λ (s : RuledTexts). All OneBlock s.texts) (sym source) c.requires.one

pub compile_with-requires-clause-user : goal.compile_with-requires-clause-user
compile_with-requires-clause-user c =
    let source = is_leftmost c.as_ruled.result.now c.args.database.now c.as_ruled.ensures.rule c.as_ruled.ensures.texts in
    subst (λ (s : RuledTexts). (text : List ℕ) → slice_get s.texts c.args.at ≡ Some text → IsUserTableBy s.rule s.texts text (said_at c.args.user.now)) (sym source) c.requires.user

pub returns : goal.returns
returns c =
    let source = is_leftmost c.as_ruled.result.now c.args.database.now c.as_ruled.ensures.rule c.as_ruled.ensures.texts in
    subst (λ (s : RuledTexts). IfOk c.compile_with.result (λ state. (text : List ℕ) → slice_get s.texts c.args.at ≡ Some text → IsStateBy s.rule s.texts text (state_seen state))) source c.compile_with.ensures
