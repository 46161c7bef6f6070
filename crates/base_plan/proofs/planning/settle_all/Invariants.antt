use Rattle.std.proofs.Common.{◌≡◌, ◌≤◌, ◌+◌, length, map, take, sum_by, slice_index_or, []}
use Rattle.base_meaning.specs.Dependents.{work}
use Rattle.base_slots.specs.Slots.{blocks_of}
use Rattle.base_plan.specs.inside.Settling.{node_position}
use Rattle.base_plan.proofs.Following.{IsFollowing}
use Rattle.base_plan.proofs.planning.settle_all.Given as goal

abbrev pub ghost-settle : goal.ghost-settle
ghost-settle a = node_position a.known.now.dependents.now a.node

abbrev pub invariant-loop-node : goal.invariant-loop-node
invariant-loop-node l = record {
  following : IsFollowing l.slots l.dependents l.components.order.items l.settled.items l.node-index;
  steps : l.left + work (blocks_of l.slots) (map (node_position l.dependents) (take l.node-index l.components.order.items)) ≡ l.fn.left;
  bound : l.fn.left ≤ l.left + sum_by (λ node. length (slice_index_or l.dependents.uses node [])) (take l.node-index l.components.order.items);
}
