-- what each call appends
use Rattle.std.proofs.Common.{◌++◌, codes}
use Rattle.ti_caps.specs.declared.capability.Kind.TheVariants.{Number}
use Rattle.everyday_initializers.specs.Initializers.{table_front, lines, number_at, table_end}
use Rattle.everyday_initializers.specs.Rows.{total_count}
use Rattle.everyday_initializers.specs.inside.Lines.{described_seen}
use Rattle.everyday_initializers.proofs.InTurn.{more}
use Rattle.everyday_initializers.proofs.whole.push_numbers.Goals as goal

pub returns : goal.returns
returns c =
    let d = described_seen c.args.d.now in
    let front = c.args.front.now in
    let old = c.args.out.now.items in
    let p0 = table_front (codes "short ") front (codes "number") in
    let p1 = lines (number_at d) 0 (total_count d Number) in
    let p2 = table_end in
    let a0 = p0 in
    let s1 = more old a0 p1 c.in_ok-push_front.ensures c.in_ok-push_all.ensures in
    let a1 = a0 ++ p1 in
    rw (← c.requires) (more old a1 p2 s1 c.in_ok-extend_from_slice.ensures.items)
