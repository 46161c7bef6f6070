use Rattle.std.proofs.Common.{◌≡◌, All, length, map, sym, subst}
use Rattle.std.specs.Prelude.{IfOk}
use Rattle.std.specs.List.{flat_map}
use Rattle.user_compiling.specs.Faults.{fault_seen}
use Rattle.user_compiling.specs.Report.{extended_line, IsExtendedPlaced}
use Rattle.ti_base.specs.RuledTexts.{RuledTexts}
use Rattle.ti_base.proofs.LeftmostTexts.{is_leftmost}
use Rattle.user_compiling.proofs.leftmost.report_of.Goals as goal

pub report_of-requires-clause-placed : goal.report_of-requires-clause-placed
report_of-requires-clause-placed c =
    let source = is_leftmost c.as_ruled.result.now c.args.database.now c.as_ruled.ensures.rule c.as_ruled.ensures.texts in
    subst (λ (s : RuledTexts). All (IsExtendedPlaced (length s.texts)) (map fault_seen c.args.faults.now)) (sym source) c.requires.placed

pub returns : goal.returns
returns c =
    let source = is_leftmost c.as_ruled.result.now c.args.database.now c.as_ruled.ensures.rule c.as_ruled.ensures.texts in
    subst (λ (s : RuledTexts). IfOk c.report_of.result
    (λ out. out.items ≡ flat_map (extended_line s.texts c.args.first_line) (map fault_seen c.args.faults.now))) source c.report_of.ensures
