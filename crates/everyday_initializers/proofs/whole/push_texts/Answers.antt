-- what each call appends
use Rattle.std.proofs.Common.{◌++◌, codes}
use Rattle.ti_caps.specs.declared.capability.Kind.TheVariants.{Text}
use Rattle.everyday_initializers.specs.Initializers.{table_front, lines, text_at, table_end}
use Rattle.everyday_initializers.specs.Rows.{total_count}
use Rattle.everyday_initializers.specs.inside.Lines.{described_seen}
use Rattle.everyday_initializers.proofs.InTurn.{more}
use Rattle.everyday_initializers.proofs.whole.push_texts.Goals as goal

pub returns : goal.returns
returns c =
    let d = described_seen c.args.d.now in
    let front = c.args.front.now in
    let old = c.args.out.now.items in
    let p0 = table_front (codes "char * ") front (codes "string") in
    let p1 = lines (text_at d) 0 (total_count d Text) in
    let p2 = table_end in
    let a0 = p0 in
    let s1 = more old a0 p1 c.in_ok-push_front.ensures c.in_ok-push_all.ensures in
    let a1 = a0 ++ p1 in
    rw (← c.requires) (more old a1 p2 s1 c.in_ok-extend_from_slice.ensures.items)
