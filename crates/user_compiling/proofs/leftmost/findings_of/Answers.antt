use Rattle.std.proofs.Common.{◌≡◌, length, map, sym, subst}
use Rattle.std.specs.Prelude.{IfOk}
use Rattle.user_compiling.specs.Entries.{state_seen}
use Rattle.user_compiling.specs.Findings.{AreFindingsBy}
use Rattle.ti_base.specs.RuledTexts.{RuledTexts}
use Rattle.ti_base.proofs.LeftmostTexts.{is_leftmost}
use Rattle.user_compiling.proofs.leftmost.findings_of.Goals as goal

pub findings_of-requires : goal.findings_of-requires
findings_of-requires c =
    let source = is_leftmost c.as_ruled.result.now c.args.database.now c.as_ruled.ensures.rule c.as_ruled.ensures.texts in
    record { as_many = subst (λ (s : RuledTexts). length c.args.compiled.now ≡ length s.texts) (sym source) c.requires.as_many }

pub returns-clause-as_many : goal.returns-clause-as_many
returns-clause-as_many c =
    let source = is_leftmost c.as_ruled.result.now c.args.database.now c.as_ruled.ensures.rule c.as_ruled.ensures.texts in
    subst (λ (s : RuledTexts). IfOk c.findings_of.result (λ findings. length findings.items ≡ length s.texts)) source c.findings_of.ensures.as_many

pub returns-clause-findings : goal.returns-clause-findings
returns-clause-findings c =
    let source = is_leftmost c.as_ruled.result.now c.args.database.now c.as_ruled.ensures.rule c.as_ruled.ensures.texts in
    subst (λ (s : RuledTexts). IfOk c.findings_of.result (λ findings. AreFindingsBy s.texts (map state_seen c.args.compiled.now) findings.items)) source c.findings_of.ensures.findings
