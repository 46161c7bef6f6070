use Rattle.std.proofs.Common.{◌≡◌, All, length, map, sym, subst}
use Rattle.std.specs.Prelude.{IfOk}
use Rattle.user_compiling.specs.Entries.{state_seen}
use Rattle.user_compiling.specs.Faults.{extended_faults_by, fault_seen}
use Rattle.user_compiling.specs.Report.{IsExtendedPlaced}
use Rattle.ti_base.specs.RuledTexts.{RuledTexts}
use Rattle.ti_base.proofs.LeftmostTexts.{is_leftmost}
use Rattle.user_compiling.proofs.leftmost.faults.Goals as goal

pub faults-requires : goal.faults-requires
faults-requires c =
    let source = is_leftmost c.as_ruled.result.now c.args.database.now c.as_ruled.ensures.rule c.as_ruled.ensures.texts in
    record { as_many = subst (λ (s : RuledTexts). length c.args.compiled.now ≡ length s.texts) (sym source) c.requires.as_many }

pub returns-clause-all : goal.returns-clause-all
returns-clause-all c =
    let source = is_leftmost c.as_ruled.result.now c.args.database.now c.as_ruled.ensures.rule c.as_ruled.ensures.texts in
    subst (λ (s : RuledTexts). IfOk c.faults.result
    (λ all. map fault_seen all.items ≡ extended_faults_by s.rule s.texts (map state_seen c.args.compiled.now))) source c.faults.ensures.all

pub returns-clause-placed : goal.returns-clause-placed
returns-clause-placed c =
    let source = is_leftmost c.as_ruled.result.now c.args.database.now c.as_ruled.ensures.rule c.as_ruled.ensures.texts in
    subst (λ (s : RuledTexts). IfOk c.faults.result (λ all. All (IsExtendedPlaced (length s.texts)) (map fault_seen all.items))) source
    c.faults.ensures.placed
