use Rattle.std.proofs.Common.{◌≤◌, ◌+◌, length, take, sym, ◌∙◌, arith}
use Rattle.base_slots.specs.inside.Indexing.{all_said, is_among_said, IsGrown}
use Rattle.base_slots.proofs.Adding.{grown_more, room_more, said_more, said_same, said_ended}
use Rattle.base_slots.proofs.indexing.reserve.Goals as goal
use Rattle.base_slots.proofs.indexing.reserve.Goals.{in-Some+in_ok-reserve, in_default}

pub loop-place-preserved : goal.loop-place-preserved
loop-place-preserved c =
    let all = all_said c.args.block.now in
    let k = c.loop-place.place in
    let said = is_among_said (take k all) in
    let next = is_among_said (take (k + 1) all) in
    let mid = c.loop-place.index in
    elim c.match-said_at.branch [
      | in-Some+in_ok-reserve w ↦
          let name = w.in-Some.name.now in
          let now : IsGrown mid w.reserve.new.self = record { seen = w.reserve.ensures.seen; capacity = w.reserve.ensures.capacity } in
          rw w.index-is
          (record {
            grown = grown_more c.args.index.now mid w.reserve.new.self c.loop-place.invariant.grown now;
            room = room_more said next mid w.reserve.new.self _ name c.loop-place.invariant.room now w.in_ok-reserve.ensures.holder_room
                w.in_ok-reserve.ensures.user_room
                (said_more all k _ w.in-Some.ensures);
          })
      | in_default w ↦
          rw w.index-is
          (record {
            grown = c.loop-place.invariant.grown;
            room = λ role name e. c.loop-place.invariant.room role name (sym (said_same all k w.in_default.ensures role name) ∙ e);
          })
    ]

pub returns-clause-room : goal.returns-clause-room
returns-clause-room c = λ role name e.
    let block = c.args.block.now in
    let past : length block.names.items + length block.items.items ≤ c.loop-place.place =
    omega (arith, c.loop-place-test.false, c.len.ensures, c.len-2.ensures, block.names.ok.0, block.items.ok.0) in
    c.loop-place.invariant.room role name (sym (said_ended block c.loop-place.place past role name) ∙ e)
