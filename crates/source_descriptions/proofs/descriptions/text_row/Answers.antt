use Rattle.std.proofs.Common.{◌≡◌, ◌+◌, ◌%◌, arith}
use Rattle.source_descriptions.proofs.Rows.{in_part_1, in_part_2, in_part_3, in_part_4, in_part_5, in_part_6}
use Rattle.source_descriptions.proofs.descriptions.text_row.Goals as goal

pub returns-in-0 : goal.returns-in-0
returns-in-0 c = let at : c.args.index ≡ c.args.index % 69 = omega (arith, c.in-0.is) in in_part_1 c.args.index (c.args.index % 69) _ at c.row_at.ensures

pub returns-in-1 : goal.returns-in-1
returns-in-1 c =
    let at : c.args.index ≡ 69 + c.args.index % 69 = omega (arith, c.in-1.is) in in_part_2 c.args.index (c.args.index % 69) _ at c.row_at-in-1.ensures

pub returns-in-2 : goal.returns-in-2
returns-in-2 c =
    let at : c.args.index ≡ 138 + c.args.index % 69 = omega (arith, c.in-2.is) in in_part_3 c.args.index (c.args.index % 69) _ at c.row_at-in-2.ensures

pub returns-in-3 : goal.returns-in-3
returns-in-3 c =
    let at : c.args.index ≡ 207 + c.args.index % 69 = omega (arith, c.in-3.is) in in_part_4 c.args.index (c.args.index % 69) _ at c.row_at-in-3.ensures

pub returns-in-4 : goal.returns-in-4
returns-in-4 c =
    let at : c.args.index ≡ 276 + c.args.index % 69 = omega (arith, c.in-4.is) in in_part_5 c.args.index (c.args.index % 69) _ at c.row_at-in-4.ensures

pub returns-in_default : goal.returns-in_default
returns-in_default c = let at : c.args.index ≡ 345 + c.args.index % 69 = omega (arith, c.in_default) in
    in_part_6 c.args.index (c.args.index % 69) _ at c.row_at-in_default.ensures
