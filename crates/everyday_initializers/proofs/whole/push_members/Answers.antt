-- what each call appends
use Rattle.std.proofs.Common.{◌++◌, codes}
use Rattle.everyday_initializers.specs.Initializers.{member, table_members}
use Rattle.everyday_initializers.proofs.InTurn.{more}
use Rattle.everyday_initializers.proofs.whole.push_members.Goals as goal

pub returns : goal.returns
unfolding table_members
returns c =
    let front = c.args.front.now in
    let old = c.args.out.now.items in
    let p0 = codes "\t{\n" in
    let p1 = member front (codes "alias") in
    let p2 = codes "\t\t(char *)0,\t/* pointer to string table */\n" in
    let p3 = member front (codes "bool") in
    let p4 = member front (codes "number") in
    let p5 = member front (codes "string") in
    let a0 = p0 in
    let s1 = more old a0 p1 c.in_ok-extend_from_slice.ensures.items c.in_ok-push_member.ensures in
    let a1 = a0 ++ p1 in
    let s2 = more old a1 p2 s1 c.in_ok-extend_from_slice-2.ensures.items in
    let a2 = a1 ++ p2 in
    let s3 = more old a2 p3 s2 c.in_ok-push_member-2.ensures in
    let a3 = a2 ++ p3 in
    let s4 = more old a3 p4 s3 c.in_ok-push_member-3.ensures in
    let a4 = a3 ++ p4 in
    more old a4 p5 s4 c.in_ok-push_member-4.ensures
