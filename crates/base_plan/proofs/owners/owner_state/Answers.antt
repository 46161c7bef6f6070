use Rattle.std.proofs.Common.{◌≡◌, ◌<◌, ℕ, arith, Some, None, rules}
use Rattle.std.proofs.lemmas.Option.{slice_get_within, slice_get-get_or}
use Rattle.base_slots.specs.Slots.{blocks_of}
use Rattle.base_meaning.proofs.UseFaults.{use_fault_missing}
use Rattle.base_plan.proofs.Places.{row_at}
use Rattle.base_plan.proofs.UsedOwners.{fault_circular, state_inside, state_outside, read_use, read_edge, owner_within, node_within, one_component}
use Rattle.base_plan.proofs.UsedOwners.{two_components, settled_owner}
use Rattle.base_plan.proofs.owners.owner_state.Goals as goal

pub bounds : goal.bounds
bounds g c =
    let k = c.args.known.now in
    row_at k.slots.now k.dependents.now c.requires.0.known.found c.args.node g.at c.args.index c.args.name.now c.row.result.now c.requires.0.stands
    c.requires.1 c.row.ensures

pub offset_bounds-row-index : goal.offset_bounds-row-index
offset_bounds-row-index g c = let b = bounds g c in search rules

pub bounds-known-owner : goal.bounds-known-owner
bounds-known-owner g c =
    let k = c.args.known.now in
    let u = read_use k.slots.now k.dependents.now k.component_of.now k.settled.now c.args.node g.at c.args.index c.args.name.now c.row.result.now
    c.requires.0.known c.requires.0.stands c.requires.1 c.row.ensures (Some c.in-Some.owner) c.in-Some.is in
    (owner_within k.slots.now k.dependents.now k.component_of.now k.settled.now c.args.node g.at c.args.index c.args.name.now c.row.result.now
    c.in-Some.owner u).0

pub offset_bounds-known-owner : goal.offset_bounds-known-owner
offset_bounds-known-owner g c = let b = bounds-known-owner g c in search rules

pub bounds-known-node : goal.bounds-known-node
bounds-known-node g c =
    let k = c.args.known.now in
    node_within k.slots.now k.dependents.now k.component_of.now k.settled.now c.args.node g.at c.args.index c.args.name.now c.row.result.now
    c.requires.0.known c.row.ensures

pub offset_bounds-known-node : goal.offset_bounds-known-node
offset_bounds-known-node g c = let b = bounds-known-node g c in search rules

pub returns-then-known-owner-clause-fault : goal.returns-then-known-owner-clause-fault
returns-then-known-owner-clause-fault g c =
    let k = c.args.known.now in
    let u = read_use k.slots.now k.dependents.now k.component_of.now k.settled.now c.args.node g.at c.args.index c.args.name.now c.row.result.now
    c.requires.0.known c.requires.0.stands c.requires.1 c.row.ensures (Some c.in-Some.owner) c.in-Some.is in
    let within = owner_within k.slots.now k.dependents.now k.component_of.now k.settled.now c.args.node g.at c.args.index c.args.name.now c.row.result.now
    c.in-Some.owner u in
    let node = node_within k.slots.now k.dependents.now k.component_of.now k.settled.now c.args.node g.at c.args.index c.args.name.now c.row.result.now
    c.requires.0.known c.row.ensures in
    fault_circular k.slots.now k.dependents.now k.component_of.now k.settled.now c.args.node g.at c.args.index c.args.name.now c.in-Some.owner u
    (one_component k.component_of.now c.args.node c.in-Some.owner node within.0 c.if-known-owner.true)

pub bounds-known-owner-in-Some : goal.bounds-known-owner-in-Some
bounds-known-owner-in-Some g c =
    let k = c.args.known.now in
    let u = read_use k.slots.now k.dependents.now k.component_of.now k.settled.now c.args.node g.at c.args.index c.args.name.now c.row.result.now
    c.requires.0.known c.requires.0.stands c.requires.1 c.row.ensures (Some c.in-Some.owner) c.in-Some.is in
    (owner_within k.slots.now k.dependents.now k.component_of.now k.settled.now c.args.node g.at c.args.index c.args.name.now c.row.result.now
    c.in-Some.owner u).1

pub offset_bounds-known-owner-in-Some : goal.offset_bounds-known-owner-in-Some
offset_bounds-known-owner-in-Some g c = let b = bounds-known-owner-in-Some g c in search rules

pub returns-else-known-owner-clause-owner : goal.returns-else-known-owner-clause-owner
returns-else-known-owner-clause-owner g c =
    let k = c.args.known.now in
    let apart = two_components k.component_of.now c.args.node c.in-Some.owner c.if-known-owner.false in
    let u = read_use k.slots.now k.dependents.now k.component_of.now k.settled.now c.args.node g.at c.args.index c.args.name.now c.row.result.now
    c.requires.0.known c.requires.0.stands c.requires.1 c.row.ensures (Some c.in-Some.owner) c.in-Some.is in
    let within = (owner_within k.slots.now k.dependents.now k.component_of.now k.settled.now c.args.node g.at c.args.index c.args.name.now c.row.result.now
    c.in-Some.owner u).1 in
    let edge = read_edge k.slots.now k.dependents.now k.component_of.now k.settled.now c.args.node g.at c.args.index c.args.name.now c.row.result.now
    c.requires.0.known c.requires.0.stands c.requires.1 c.row.ensures c.in-Some.owner c.in-Some.is in
    let right = settled_owner k.slots.now k.dependents.now k.component_of.now k.settled.now c.args.node c.in-Some.owner c.requires.0.owners edge apart in
    state_inside k.slots.now k.dependents.now k.component_of.now k.settled.now c.args.node g.at c.args.index c.args.name.now c.in-Some.owner _ u apart right
    (slice_get-get_or k.settled.now c.in-Some.owner _ within)

pub returns-in-Some-owner-clause-owner : goal.returns-in-Some-owner-clause-owner
returns-in-Some-owner-clause-owner g c =
    let k = c.args.known.now in
    let u = read_use k.slots.now k.dependents.now k.component_of.now k.settled.now c.args.node g.at c.args.index c.args.name.now c.row.result.now
    c.requires.0.known c.requires.0.stands c.requires.1 c.row.ensures None c.in-None.is in
    state_outside k.slots.now k.dependents.now k.component_of.now k.settled.now c.args.node g.at c.args.index c.args.name.now c.in-Some-owner.id
    c.slot.result.now u (c.owner.ensures.some c.in-Some-owner.id c.in-Some-owner.is) c.slot.ensures.slot

pub slot-requires : goal.slot-requires
slot-requires g c = let own = c.owner.ensures.some c.in-Some-owner.id c.in-Some-owner.is in (own.0, own.2)

pub returns-in-None-owner-clause-fault : goal.returns-in-None-owner-clause-fault
returns-in-None-owner-clause-fault g c =
    use_fault_missing (blocks_of c.args.known.now.slots.now) g.at c.args.name.now (c.owner.ensures.none c.in-None-owner.is)

pub bounds-row-index : goal.bounds-row-index
bounds-row-index g c =
    let k = c.args.known.now in
    row_at k.slots.now k.dependents.now c.requires.0.known.found c.args.node g.at c.args.index c.args.name.now c.row.result.now c.requires.0.stands
    c.requires.1 c.row.ensures

-- the places, the ids and the rows are as many
below_as_many : (node places ids rows : ℕ) → node < places → places ≡ ids → rows ≡ ids → node < rows
below_as_many node places ids rows l e f = omega arith

pub row-requires : goal.row-requires
row-requires g c =
    let d = c.args.known.now.dependents.now in
    let found = c.requires.0.known.found in
    below_as_many c.args.node _ _ _ (slice_get_within d.positions.items c.args.node g.at c.requires.0.stands) found.as_many found.graph.as_many
