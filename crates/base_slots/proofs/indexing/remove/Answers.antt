use Rattle.std.proofs.Common.{◌≤◌, ◌+◌, length, take, Some, ap, ◌∙◌, arith}
use Rattle.base_index.specs.Listing.{ListsNoMore}
use Rattle.base_slots.specs.declared.indexing.Role.TheVariants.{Holder, User}
use Rattle.base_slots.specs.inside.Indexing.{all_said, says_of, is_among_said}
use Rattle.base_slots.proofs.Adding.{capacity_here, changed_holder, changed_user, removes_more, removes_same, removed_among, said_more, said_same, said_ended}
use Rattle.base_slots.proofs.indexing.remove.Goals as goal
use Rattle.base_slots.proofs.indexing.remove.Goals.{in-Some-Holder-default, in-Some-User-default, in-None}

pub remove_holder-requires-clause-among : goal.remove_holder-requires-clause-among
remove_holder-requires-clause-among c =
    let name = c.in-Some-Holder-default.name.now in
    let said = is_among_said (take c.loop-place.place (all_said c.args.block.now)) in
    removed_among c.args.order.now.listed said c.args.id c.args.index.now c.loop-place.index Holder name c.loop-place.invariant (c.requires.parts Holder name)

pub remove_user-requires-clause-among : goal.remove_user-requires-clause-among
remove_user-requires-clause-among c =
    let name = c.in-Some-User-default.name.now in
    let said = is_among_said (take c.loop-place.place (all_said c.args.block.now)) in
    removed_among c.args.order.now.listed said c.args.id c.args.index.now c.loop-place.index User name c.loop-place.invariant (c.requires.parts User name)

pub loop-place-preserved : goal.loop-place-preserved
loop-place-preserved c =
    let listed = c.args.order.now.listed in
    let all = all_said c.args.block.now in
    let k = c.loop-place.place in
    let said = is_among_said (take k all) in
    let next = is_among_said (take (k + 1) all) in
    let mid = c.loop-place.index in
    elim c.match-said_at.branch [
      | in-Some-Holder-default w ↦
          let name = w.in-Some-Holder-default.name.now in
          let new = w.remove_holder.new.self in
          let here = w.in-Some-Holder-default.ensures ∙ ap (λ role. Some (Some (role, name))) w.in-Some-Holder-default.field-0-0-is in
          rw w.index-is
          (removes_more listed said next c.args.id c.args.index.now mid new (Some (Holder, name)) c.loop-place.invariant
          (said_more all k (Some (Holder, name)) here)
          (changed_holder (λ a b. ListsNoMore listed a b c.args.id) name mid new w.remove_holder.ensures.holders w.remove_holder.ensures.users
          w.remove_holder.ensures.others)
          (λ n. capacity_here mid new name n w.remove_holder.ensures.capacity w.remove_holder.ensures.others))
      | in-Some-User-default w ↦
          let name = w.in-Some-User-default.name.now in
          let new = w.remove_user.new.self in
          let here = w.in-Some-User-default.ensures ∙ ap (λ role. Some (Some (role, name))) w.in-Some-User-default.field-0-0-is in
          rw w.index-is
          (removes_more listed said next c.args.id c.args.index.now mid new (Some (User, name)) c.loop-place.invariant
          (said_more all k (Some (User, name)) here)
          (changed_user (λ a b. ListsNoMore listed a b c.args.id) name mid new w.remove_user.ensures.users w.remove_user.ensures.holders
          w.remove_user.ensures.others)
          (λ n. capacity_here mid new name n w.remove_user.ensures.capacity w.remove_user.ensures.others))
      | in-None w ↦ rw w.index-is (removes_same listed said next c.args.id c.args.index.now mid (said_same all k w.in-None.ensures) c.loop-place.invariant)
    ]

pub returns : goal.returns
returns c =
    let block = c.args.block.now in
    let past : length block.names.items + length block.items.items ≤ c.loop-place.place =
    omega (arith, c.loop-place-test.false, c.len.ensures, c.len-2.ensures, block.names.ok.0, block.items.ok.0) in
    removes_same c.args.order.now.listed (is_among_said (take c.loop-place.place (all_said block)))
    (says_of block) c.args.id c.args.index.now c.loop-place.index (said_ended block c.loop-place.place past) c.loop-place.invariant
