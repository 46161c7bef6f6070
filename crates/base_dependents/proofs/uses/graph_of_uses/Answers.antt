use Rattle.std.proofs.Common.{◌<◌, length, get_or, map, slice_get, take, sym, ◌∙◌, ap, arith}
use Rattle.std.proofs.lemmas.List.{take_more}
use Rattle.std.proofs.lemmas.Option.{slice_get-get_or}
use Rattle.ti_source.specs.Reading.{item_of}
use Rattle.base_dependents.proofs.Edges.{rows_begun, rows_more, rows_ended, uses_whole}
use Rattle.base_dependents.proofs.uses.graph_of_uses.Goals as goal

pub loop-id-preserved : goal.loop-id-preserved
loop-id-preserved c =
    let ids = c.as_slice-id-items.result.now in
    let at = c.loop-id.id-index in
    let within : at < length ids = omega arith in
    rw (take_more ids at 0 within)
    (rows_more c.args.slots.now c.args.found.now.keys (take at ids) (get_or ids at 0) (map item_of c.deref.result.now) c.loop-id.uses c.add_row.new.uses
    c.loop-id.invariant
    (ap (map item_of) c.deref.ensures.value ∙ ap (λ r. r.items) c.block_of.ensures.block) c.in_ok-add_row.ensures)

pub returns-clause-uses : goal.returns-clause-uses
returns-clause-uses c =
    rows_ended c.args.slots.now c.args.found.now.keys c.as_slice-id-items.result.now c.loop-id.id-index c.loop-id.uses c.as_slice-id-items.ensures.keys
    c.loop-id-test.false c.loop-id.invariant

pub returns-clause-graph : goal.returns-clause-graph
returns-clause-graph c = uses_whole c.args.slots.now c.args.found.now.keys c.loop-id.uses (returns-clause-uses c)

pub loop-id-init : goal.loop-id-init
loop-id-init c = rows_begun c.args.slots.now c.args.found.now.keys c.in_ok-uses.uses c.in_ok-uses.ensures

pub block_of-requires : goal.block_of-requires
block_of-requires c =
    let ids = c.as_slice-id-items.result.now in
    let at = c.loop-id.id-index in
    let within : at < length ids = omega arith in
    c.requires at (get_or ids at 0) (ap (λ xs. slice_get xs at) (sym c.as_slice-id-items.ensures.keys) ∙ slice_get-get_or ids at 0 within)

pub add_row-requires : goal.add_row-requires
add_row-requires c = c.as_slice-id-items.ensures.unique
