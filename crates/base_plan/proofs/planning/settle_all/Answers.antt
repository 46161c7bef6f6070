use Rattle.std.proofs.Common.{ℕ, ◌≡◌, ◌+◌, ◌<◌, ◌≤◌, ◌++◌, ◌∷◌, [], length, map, take, Some, slice_get, slice_index_or, arith}
use Rattle.std.proofs.lemmas.List.{take_more, map-append}
use Rattle.std.proofs.lemmas.Option.{slice_get-get_or}
use Rattle.base_slots.specs.Slots.{blocks_of}
use Rattle.base_plan.specs.inside.Settling.{node_position}
use Rattle.base_plan.proofs.Following.{following_begun, following_more, following_ended, next_can, place_stands, right_at}
use Rattle.base_plan.proofs.Places.{block_of, node_of_place}
use Rattle.base_plan.proofs.Steps.{next_room, steps_more, bound_more}
use Rattle.base_plan.proofs.planning.settle_all.Goals as goal

none_made : (n : ℕ) → n + 0 ≡ n
none_made n = omega arith

from_start : (n : ℕ) → n ≤ n + 0
from_start n = omega arith

pub settle-requires : goal.settle-requires
settle-requires c =
    let slots = c.args.slots.now in
    let d = c.args.dependents.now in
    let order = c.args.components.now.order.items in
    let end = c.loop-node.node-index in
    let node = slice_index_or c.deref-node-items.result.now end 0 in
    let within : end < length order = rw c.deref-node-items.ensures.value at c.loop-node-test.true in
    let listed : slice_get order end ≡ Some node = rw c.deref-node-items.ensures.value (slice_get-get_or order end 0 within) in
    let more : take (end + 1) order ≡ take end order ++ node ∷ [] = rw c.deref-node-items.ensures.value (take_more order end 0 within) in
    let can = next_can slots d c.args.components.now.component_of.items order c.loop-node.settled.items end node c.requires.found c.requires.components
    c.requires.order c.loop-node.invariant.following listed in (
      rw (c.deref.ensures.value, c.deref-in-loop-node.ensures.value) can,
      λ block s. next_room slots d order end node c.args.left.now c.loop-node.left (node_position d node) block c.requires.found c.requires.order.once
          c.requires.order.nodes listed more can.stands s c.loop-node.invariant.bound c.requires.room,
    )

pub index_mut-requires : goal.index_mut-requires
index_mut-requires c =
    let order = c.args.components.now.order.items in
    let end = c.loop-node.node-index in
    let node = slice_index_or c.deref-node-items.result.now end 0 in
    let within : end < length order = rw c.deref-node-items.ensures.value at c.loop-node-test.true in
    let listed : slice_get order end ≡ Some node = rw c.deref-node-items.ensures.value (slice_get-get_or order end 0 within) in
    let below = c.requires.order.nodes end node listed in
    omega (arith, c.loop-node.settled.ok.0, c.loop-node.invariant.following.as_many, c.requires.found.graph.as_many)

pub loop-node-preserved : goal.loop-node-preserved
loop-node-preserved c =
    let slots = c.args.slots.now in
    let d = c.args.dependents.now in
    let order = c.args.components.now.order.items in
    let end = c.loop-node.node-index in
    let node = slice_index_or c.deref-node-items.result.now end 0 in
    let within : end < length order = rw c.deref-node-items.ensures.value at c.loop-node-test.true in
    let listed : slice_get order end ≡ Some node = rw c.deref-node-items.ensures.value (slice_get-get_or order end 0 within) in
    let more : take (end + 1) order ≡ take end order ++ node ∷ [] = rw c.deref-node-items.ensures.value (take_more order end 0 within) in
    let h = c.loop-node.invariant in
    let stands = place_stands slots d c.args.components.now.component_of.items order end node c.requires.found c.requires.order listed in
    let n = node_of_place slots d c.requires.found node (node_position d node) stands in
    let below = c.requires.order.nodes end node listed in
    let fits : node < length c.loop-node.settled.items = omega (arith, h.following.as_many, c.requires.found.graph.as_many) in
    record {
      following = following_more slots d order c.loop-node.settled.items end node c.in_ok-one.one h.following listed fits
          (right_at slots d node (node_position d node) c.in_ok-one.one stands c.in_ok-one.ensures.settled);
      steps = rw (more, map-append (node_position d) (take end order) (node ∷ []))
          (steps_more (blocks_of slots) (map (node_position d) (take end order)) (node_position d node) c.args.left.now c.loop-node.left c.settle.new.left
          h.steps c.in_ok-one.ensures.work);
      bound = rw more (bound_more slots d (take end order) node (node_position d node) c.args.left.now c.loop-node.left c.settle.new.left
          (block_of slots n.0) c.requires.found stands n.1.block h.bound c.in_ok-one.ensures.work);
    }

pub returns-clause-settled : goal.returns-clause-settled
returns-clause-settled c =
    let order = c.args.components.now.order.items in
    let past : length order ≤ c.loop-node.node-index = rw c.deref-node-items.ensures.value at c.loop-node-test.false in
    following_ended c.args.slots.now c.args.dependents.now c.args.components.now.component_of.items order c.loop-node.settled.items c.loop-node.node-index
    c.requires.found c.requires.order past c.loop-node.invariant.following

pub loop-node-init : goal.loop-node-init
loop-node-init c =
    let all = c.in_ok-settled.settled.items in
    let none : length all ≡ length c.args.dependents.now.ids.items = omega (arith, c.in_ok-settled.ensures, c.len.ensures, c.args.dependents.now.ids.ok.0) in
    record {
      following = following_begun c.args.slots.now c.args.dependents.now c.args.components.now.order.items all none;
      steps = none_made c.args.left.now;
      bound = from_start c.args.left.now;
    }
