-- what each call appends
use Rattle.std.proofs.Common.{◌++◌, codes}
use Rattle.ti_caps.specs.declared.capability.Kind.TheVariants.{Flag, Number, Text}
use Rattle.everyday_initializers.specs.Initializers.{count_member, count_members}
use Rattle.everyday_initializers.specs.Rows.{extra_count, total_count}
use Rattle.everyday_initializers.specs.inside.Lines.{described_seen}
use Rattle.everyday_initializers.proofs.InTurn.{more}
use Rattle.everyday_initializers.proofs.whole.push_counts.Goals as goal

pub returns : goal.returns
unfolding count_members
returns c =
    let d = described_seen c.args.d.now in
    let old = c.args.out.now.items in
    let p0 = count_member (total_count d Flag) (codes "total Booleans") in
    let p1 = count_member (total_count d Number) (codes "total Numbers") in
    let p2 = count_member (total_count d Text) (codes "total Strings") in
    let p3 = count_member (extra_count d Flag) (codes "extensions to Booleans") in
    let p4 = count_member (extra_count d Number) (codes "extensions to Numbers") in
    let p5 = count_member (extra_count d Text) (codes "extensions to Strings") in
    let a0 = p0 in
    let s1 = more old a0 p1 c.in_ok-push_total.ensures c.in_ok-push_total-2.ensures in
    let a1 = a0 ++ p1 in
    let s2 = more old a1 p2 s1 c.in_ok-push_total-3.ensures in
    let a2 = a1 ++ p2 in
    let s3 = more old a2 p3 s2 c.in_ok-push_extra.ensures in
    let a3 = a2 ++ p3 in
    let s4 = more old a3 p4 s3 c.in_ok-push_extra-2.ensures in
    let a4 = a3 ++ p4 in
    more old a4 p5 s4 c.in_ok-push_extra-3.ensures
