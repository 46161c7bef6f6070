use Rattle.std.proofs.Common.{map, option_map}
use Rattle.source_descriptions.specs.UserDescriptions.{described_rows, has_name, user_told}
use Rattle.source_descriptions.specs.declared.user_rows.TheConstants.{CAPITALS, OTHERS}
use Rattle.source_descriptions.proofs.UserRows.{in_first, in_second, rows_are}
use Rattle.source_descriptions.proofs.user_rows.row_named.Goals as goal

pub returns-in-Some : goal.returns-in-Some
returns-in-Some c =
    in_first (has_name c.args.name.now) (map (λ r. user_told r.0.now r.1.now r.2.now r.3.now) CAPITALS)
    (map (λ r. user_told r.0.now r.1.now r.2.now r.3.now) OTHERS) described_rows
    (user_told c.in-Some.row.0.now c.in-Some.row.1.now c.in-Some.row.2.now c.in-Some.row.3.now)
    rows_are c.in-Some.ensures

pub returns-in-None : goal.returns-in-None
returns-in-None c =
    in_second (has_name c.args.name.now) (map (λ r. user_told r.0.now r.1.now r.2.now r.3.now) CAPITALS)
    (map (λ r. user_told r.0.now r.1.now r.2.now r.3.now) OTHERS) described_rows
    (option_map (λ r. user_told r.0.now r.1.now r.2.now r.3.now) c.row_in-in-None.result) rows_are
    c.in-None.ensures c.row_in-in-None.ensures
