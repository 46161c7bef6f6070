use Rattle.std.proofs.Common.{◌<◌, ◌≤◌, length, map, ◌∙◌, ap, arith}
use Rattle.std.specs.Rc.{rc_slice_items}
use Rattle.base_dependents.proofs.Searching.{found_few, search_step, search_ended}
use Rattle.base_dependents.proofs.search.search.Goals as goal

pub block_of-requires : goal.block_of-requires
block_of-requires c =
    c.loop-next.invariant.within c.index-id.result.now (c.loop-next.next, c.index-id.ensures)

pub loop-next-smaller : goal.loop-next-smaller
loop-next-smaller c =
    let here : c.loop-next.next < length c.loop-next.found.keys = omega (arith, c.len.ensures.len) in
    let few = found_few c.args.slots.now c.args.put (map rc_slice_items c.args.out.now) c.loop-next.found.keys c.loop-next.next c.loop-next.invariant
    c.len.ensures.unique in
    omega (arith, few)

pub loop-next-preserved : goal.loop-next-preserved
loop-next-preserved c =
    search_step c.args.slots.now c.args.put (map rc_slice_items c.args.out.now) c.loop-next.found.keys c.add_users_of_owned.new.found.keys c.loop-next.next
    c.index-id.result.now
    (map rc_slice_items c.deref.result.now) c.block_of.ensures.distinct c.loop-next.invariant c.index-id.ensures
    (ap (map rc_slice_items) c.deref.ensures.value ∙ ap (λ r. r.names) c.block_of.ensures.block) c.in_ok-add_users_of_owned.ensures

pub returns : goal.returns
returns c =
    let past : length c.loop-next.found.keys ≤ c.loop-next.next = omega (arith, c.len.ensures.len) in
    search_ended c.args.slots.now c.args.put (map rc_slice_items c.args.out.now) c.loop-next.found.keys c.loop-next.next c.loop-next.invariant past
