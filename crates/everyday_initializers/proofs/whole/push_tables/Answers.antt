-- what each call appends
use Rattle.std.proofs.Common.{◌++◌, codes}
use Rattle.ti_caps.specs.declared.capability.Kind.TheVariants.{Flag, Number, Text}
use Rattle.everyday_initializers.specs.Initializers.{lines, flag_at, number_at, text_at, alias_table, string_at, table, names_table, tables_text}
use Rattle.everyday_initializers.specs.Rows.{total_count}
use Rattle.everyday_initializers.specs.inside.Lines.{described_seen}
use Rattle.everyday_initializers.proofs.InTurn.{more}
use Rattle.everyday_initializers.proofs.whole.push_tables.Goals as goal

pub returns : goal.returns
unfolding tables_text
returns c =
    let d = described_seen c.args.d.now in
    let old = c.args.out.now.items in
    let p0 = alias_table d in
    let p1 = lines (string_at d) 0 (total_count d Text) in
    let p2 = codes "\n" in
    let p3 = table d Flag (codes "char ") (codes "bool") (flag_at d) in
    let p4 = table d Number (codes "short ") (codes "number") (number_at d) in
    let p5 = table d Text (codes "char * ") (codes "string") (text_at d) in
    let p6 = names_table d in
    let a0 = p0 in
    let s1 = more old a0 p1 c.in_ok-push_alias.ensures c.in_ok-push_all.ensures in
    let a1 = a0 ++ p1 in
    let s2 = more old a1 p2 s1 c.in_ok-extend_from_slice.ensures.items in
    let a2 = a1 ++ p2 in
    let s3 = more old a2 p3 s2 c.in_ok-push_flags.ensures in
    let a3 = a2 ++ p3 in
    let s4 = more old a3 p4 s3 c.in_ok-push_numbers.ensures in
    let a4 = a3 ++ p4 in
    let s5 = more old a4 p5 s4 c.in_ok-push_texts.ensures in
    let a5 = a4 ++ p5 in
    more old a5 p6 s5 c.in_ok-push_names_table.ensures
