-- what each call appends
use Rattle.std.proofs.Common.{◌++◌, codes}
use Rattle.std.specs.Fmt.{decimal}
use Rattle.everyday_initializers.proofs.InTurn.{more}
use Rattle.everyday_initializers.proofs.whole.push_count.Goals as goal

pub returns : goal.returns
returns c =
    let old = c.args.out.now.items in
    let p0 = codes "\t\t" in
    let p1 = decimal c.args.number in
    let p2 = codes ",\t\t/* count " in
    let p3 = c.args.said.now in
    let p4 = codes " */\n" in
    let a0 = p0 in
    let s1 = more old a0 p1 c.in_ok-extend_from_slice.ensures.items c.in_ok-push_number.ensures in
    let a1 = a0 ++ p1 in
    let s2 = more old a1 p2 s1 c.in_ok-extend_from_slice-2.ensures.items in
    let a2 = a1 ++ p2 in
    let s3 = more old a2 p3 s2 c.in_ok-extend_from_slice-3.ensures.items in
    let a3 = a2 ++ p3 in
    more old a3 p4 s3 c.in_ok-extend_from_slice-4.ensures.items
