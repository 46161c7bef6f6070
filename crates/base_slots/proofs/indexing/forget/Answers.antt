use Rattle.std.proofs.Common.{◌≤◌, ◌+◌, length, take, sym, ◌∙◌, arith}
use Rattle.base_slots.specs.inside.Indexing.{all_said, is_among_said}
use Rattle.base_slots.proofs.Adding.{forgets_more, said_more, said_same, said_ended}
use Rattle.base_slots.proofs.indexing.forget.Goals as goal
use Rattle.base_slots.proofs.indexing.forget.Goals.{in-Some, in_default}

pub loop-place-preserved : goal.loop-place-preserved
loop-place-preserved c =
    let all = all_said c.args.block.now in
    let k = c.loop-place.place in
    let said = is_among_said (take k all) in
    let next = is_among_said (take (k + 1) all) in
    let h = c.loop-place.invariant in
    elim c.match-said_at.branch [
      | in-Some w ↦
          rw w.index-is
          (forgets_more said next c.args.index.now c.loop-place.index w.forget_unused.new.self _ w.in-Some.name.now h w.forget_unused.ensures.seen
          w.forget_unused.ensures.others w.forget_unused.ensures.gone
          (said_more all k _ w.in-Some.ensures))
      | in_default w ↦
          rw w.index-is
          (record { same = h.same; gone = λ role name e. h.gone role name (sym (said_same all k w.in_default.ensures role name) ∙ e); kept = h.kept })
    ]

pub returns : goal.returns
returns c =
    let block = c.args.block.now in
    let past : length block.names.items + length block.items.items ≤ c.loop-place.place =
    omega (arith, c.loop-place-test.false, c.len.ensures, c.len-2.ensures, block.names.ok.0, block.items.ok.0) in
    let h = c.loop-place.invariant in
    record { same = h.same; gone = λ role name e. h.gone role name (sym (said_ended block c.loop-place.place past role name) ∙ e); kept = h.kept }
