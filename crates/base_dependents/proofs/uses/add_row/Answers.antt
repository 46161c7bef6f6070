use Rattle.std.proofs.Common.{◌<◌, length, map, take, ◌∷◌, [], ap, subst, arith}
use Rattle.std.proofs.lemmas.List.{length-append, take_all}
use Rattle.ti_source.specs.Reading.{item_of}
use Rattle.base_dependents.specs.inside.Uses.{AddsRow}
use Rattle.ti_text.proofs.Lists.{map-take_item}
use Rattle.base_dependents.proofs.Edges.{row_begun, row_more}
use Rattle.base_dependents.proofs.uses.add_row.Goals as goal

pub loop-item-preserved : goal.loop-item-preserved
loop-item-preserved c =
    let within : c.loop-item.item-index < length c.args.items.now = omega arith in
    rw (map-take_item item_of c.args.items.now c.loop-item.item-index c.item-item.result within c.item-item.is)
    (row_more c.args.slots.now c.args.found.now.keys (map item_of (take c.loop-item.item-index c.args.items.now)) (item_of c.item-item.result) c.edge_of.result
    c.args.uses.now c.loop-item.uses c.add_edge.new.self c.loop-item.invariant c.in_ok-add_edge.ensures.ok c.edge_of.ensures)

pub loop-item-init : goal.loop-item-init
loop-item-init c = row_begun c.args.slots.now c.args.found.now.keys c.args.uses.now c.add_node.new.self c.in_ok-add_node.ensures.ok

pub add_edge-requires : goal.add_edge-requires
add_edge-requires c = omega (arith, ap length c.loop-item.invariant.behind, length-append c.args.uses.now (c.loop-item.invariant.row ∷ []))

pub returns : goal.returns
returns c =
    subst (λ done. AddsRow c.args.slots.now c.args.found.now.keys (map item_of done) c.args.uses.now c.loop-item.uses)
    (take_all c.loop-item.item-index c.args.items.now c.loop-item-test.false) c.loop-item.invariant
