-- what each call appends
use Rattle.std.proofs.Common.{◌++◌, codes}
use Rattle.everyday_initializers.specs.Initializers.{on_the_left, spelling, variable}
use Rattle.everyday_initializers.proofs.InTurn.{more}
use Rattle.everyday_initializers.proofs.lines.push_string.Goals as goal

pub returns : goal.returns
returns c =
    let old = c.args.out.now.items in
    let p0 = codes "static char " in
    let p1 = on_the_left 20 (variable c.args.front.now c.args.name.now) in
    let p2 = codes "[] = \"" in
    let p3 = spelling c.args.text.now in
    let p4 = codes "\";\n" in
    let a1 = p0 ++ p1 in
    let s1 = more old p0 p1 c.in_ok-extend_from_slice.ensures.items c.in_ok-push_padded.ensures in
    let a2 = a1 ++ p2 in
    let s2 = more old a1 p2 s1 c.in_ok-extend_from_slice-2.ensures.items in
    let a3 = a2 ++ p3 in
    let s3 = more old a2 p3 s2 c.in_ok-push_spelling.ensures in
    more old a3 p4 s3 c.in_ok-extend_from_slice-3.ensures.items
