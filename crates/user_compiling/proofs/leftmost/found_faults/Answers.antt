use Rattle.std.proofs.Common.{◌≡◌, All, List, length, map, sym, subst}
use Rattle.std.specs.Prelude.{IfOk}
use Rattle.base_meaning.specs.Compiled.{EntryState}
use Rattle.user_compiling.specs.Faults.{extended_faults_by, fault_seen}
use Rattle.user_compiling.specs.Findings.{AreFindingsBy}
use Rattle.user_compiling.specs.Report.{IsExtendedPlaced}
use Rattle.ti_base.specs.RuledTexts.{RuledTexts}
use Rattle.ti_base.proofs.LeftmostTexts.{is_leftmost}
use Rattle.user_compiling.proofs.leftmost.found_faults.Goals as goal

pub found_faults-requires : goal.found_faults-requires
found_faults-requires c =
    let source = is_leftmost c.as_ruled.result.now c.args.database.now c.as_ruled.ensures.rule c.as_ruled.ensures.texts in
    record { as_many = subst (λ (s : RuledTexts). length c.args.findings.now ≡ length s.texts) (sym source) c.requires.as_many }

pub returns-clause-all : goal.returns-clause-all
returns-clause-all c =
    let source = is_leftmost c.as_ruled.result.now c.args.database.now c.as_ruled.ensures.rule c.as_ruled.ensures.texts in
    subst (λ (s : RuledTexts). IfOk c.found_faults.result (λ all. (states : List EntryState) → AreFindingsBy s.texts states c.args.findings.now
    → map fault_seen all.items ≡ extended_faults_by s.rule s.texts states)) source c.found_faults.ensures.all

pub returns-clause-placed : goal.returns-clause-placed
returns-clause-placed c =
    let source = is_leftmost c.as_ruled.result.now c.args.database.now c.as_ruled.ensures.rule c.as_ruled.ensures.texts in
    subst (λ (s : RuledTexts). IfOk c.found_faults.result (λ all. All (IsExtendedPlaced (length s.texts)) (map fault_seen all.items))) source c.found_faults.ensures.placed
