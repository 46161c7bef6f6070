use Rattle.std.proofs.Common.{◌+◌, length, drop, sym, ap, arith}
use Rattle.ti_source.proofs.WalkLemmas.{walk_step, walk_end, begins-rest, front_of-begins, front_of-begins_not}
use Rattle.ti_source.proofs.heads.next_head.Goals as goal

pub returns-then-begins_with_head : goal.returns-then-begins_with_head
returns-then-begins_with_head c =
    let text = c.args.text.now in
    let next = c.loop-newline.at + (c.in-Some.newline + 1) in
    let step = walk_step text c.loop-newline.at c.in-Some.newline c.loop-newline.invariant.so_far c.in-Some.ensures in
    let begins = begins-rest text next _ _ c.begins_with_head.ensures c.if-begins_with_head.true in
    let none = ap length (front_of-begins (drop next text) begins) in
    omega arith

pub loop-newline-preserved : goal.loop-newline-preserved
loop-newline-preserved c =
    let text = c.args.text.now in
    let next = c.loop-newline.at + (c.in-Some.newline + 1) in
    let step = walk_step text c.loop-newline.at c.in-Some.newline c.loop-newline.invariant.so_far c.in-Some.ensures in
    let begins_not = begins-rest text next _ _ c.begins_with_head.ensures c.if-begins_with_head.false in
    let same = ap length (front_of-begins_not (drop next text) begins_not) in
    record { within = step.0; so_far = omega arith }

pub returns : goal.returns
returns c = sym (walk_end c.args.text.now _ c.loop-newline.invariant.within c.loop-newline.invariant.so_far c.in_default.ensures)
