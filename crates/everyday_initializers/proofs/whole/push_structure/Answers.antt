-- what each call appends
use Rattle.std.proofs.Common.{◌≡◌, ℕ, List, ◌++◌, codes, subst}
use Rattle.everyday_initializers.specs.Initializers.{prefix, table_members, names_member, count_members, structure_text}
use Rattle.everyday_initializers.specs.inside.Lines.{described_seen}
use Rattle.everyday_initializers.proofs.InTurn.{more}
use Rattle.everyday_initializers.proofs.whole.push_structure.Goals as goal

pub returns : goal.returns
unfolding structure_text
returns c =
    let d = described_seen c.args.d.now in
    let old = c.args.out.now.items in
    let p0 = table_members (prefix d.names) in
    let first = subst (λ (x : List ℕ). c.push_members.new.out.items ≡ old ++ table_members x) c.requires c.in_ok-push_members.ensures in
    let p1 = codes "#if NCURSES_XNAMES\n\t\t(char *)0,\t/* pointer to extended string table */\n\t\t" in
    let p2 = names_member d in
    let p3 = codes ",\t/* ...corresponding names */\n" in
    let p4 = count_members d in
    let p5 = codes "#endif /* NCURSES_XNAMES */\n\t}\n" in
    let a0 = p0 in
    let s1 = more old a0 p1 first c.in_ok-extend_from_slice.ensures.items in
    let a1 = a0 ++ p1 in
    let s2 = more old a1 p2 s1 c.in_ok-push_names_member.ensures in
    let a2 = a1 ++ p2 in
    let s3 = more old a2 p3 s2 c.in_ok-extend_from_slice-2.ensures.items in
    let a3 = a2 ++ p3 in
    let s4 = more old a3 p4 s3 c.in_ok-push_counts.ensures in
    let a4 = a3 ++ p4 in
    more old a4 p5 s4 c.in_ok-extend_from_slice-3.ensures.items
