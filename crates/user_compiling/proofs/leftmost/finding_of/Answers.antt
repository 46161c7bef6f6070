use Rattle.std.proofs.Common.{◌≡◌, ◌<◌, ℕ, List, Some, length, slice_get, sym, subst}
use Rattle.std.specs.Prelude.{IfOk}
use Rattle.user_compiling.specs.Entries.{state_seen}
use Rattle.user_compiling.specs.Findings.{IsFindingBy}
use Rattle.ti_base.specs.RuledTexts.{RuledTexts}
use Rattle.ti_base.proofs.LeftmostTexts.{is_leftmost}
use Rattle.user_compiling.proofs.leftmost.finding_of.Goals as goal

pub of-requires : goal.of-requires
of-requires c =
    let source = is_leftmost c.as_ruled.result.now c.args.database.now c.as_ruled.ensures.rule c.as_ruled.ensures.texts in
    subst (λ (s : RuledTexts). c.args.at < length s.texts) (sym source) c.requires

pub returns : goal.returns
returns c =
    let source = is_leftmost c.as_ruled.result.now c.args.database.now c.as_ruled.ensures.rule c.as_ruled.ensures.texts in
    subst (λ (s : RuledTexts). IfOk c.of.result (λ finding. (text : List ℕ) → slice_get s.texts c.args.at ≡ Some text → IsFindingBy text (state_seen c.args.state.now) finding)) source c.of.ensures
