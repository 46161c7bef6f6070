use Rattle.base_slots.proofs.Owners.{block_of_slot}
use Rattle.base_plan.proofs.Places.{node_read}
use Rattle.base_plan.proofs.settling.slot_of.Goals as goal

pub slot-requires : goal.slot-requires
slot-requires g c =
    let k = c.args.known.now in
    let n = node_read k.slots.now k.dependents.now c.requires.known.found c.args.node g.at c.index.result.now c.requires.stands c.index.ensures in
    (g.at, n.stands)

pub returns : goal.returns
returns g c =
    let k = c.args.known.now in
    let n = node_read k.slots.now k.dependents.now c.requires.known.found c.args.node g.at c.index.result.now c.requires.stands c.index.ensures in
    block_of_slot k.slots.now g.at c.slot.result.now (c.slot.ensures.slot g.at n.stands)
