-- what each call appends
use Rattle.std.proofs.Common.{◌++◌, codes}
use Rattle.ti_caps.specs.declared.capability.Kind.TheVariants.{Flag, Number, Text}
use Rattle.everyday_initializers.specs.Initializers.{table_front, table_end, extra_names, full_names_table}
use Rattle.everyday_initializers.specs.inside.Lines.{described_seen}
use Rattle.everyday_initializers.proofs.InTurn.{more}
use Rattle.everyday_initializers.proofs.whole.push_full_names_table.Goals as goal

pub returns : goal.returns
unfolding full_names_table
returns c =
    let d = described_seen c.args.d.now in
    let front = c.args.front.now in
    let old = c.args.out.now.items in
    let p0 = table_front (codes "char * ") front (codes "string_ext") in
    let p1 = extra_names d Flag in
    let p2 = extra_names d Number in
    let p3 = extra_names d Text in
    let p4 = table_end in
    let a0 = p0 in
    let s1 = more old a0 p1 c.in_ok-push_front.ensures c.in_ok-push_extra_names.ensures in
    let a1 = a0 ++ p1 in
    let s2 = more old a1 p2 s1 c.in_ok-push_extra_names-2.ensures in
    let a2 = a1 ++ p2 in
    let s3 = more old a2 p3 s2 c.in_ok-push_extra_names-3.ensures in
    let a3 = a2 ++ p3 in
    rw (← c.requires) (more old a3 p4 s3 c.in_ok-extend_from_slice.ensures.items)
